use Rattle.std.proofs.Common.{refl, ◌∙◌}
use Rattle.session_core.proofs.Closing.{can_close, closing}
use Rattle.session_core.proofs.Going.{ends, goes_on, rested}
use Rattle.session_core.proofs.Lives.{keeps_life}
use Rattle.session_core.proofs.serving.serve.Goals as goal

pub returns-in-Ok : goal.returns-in-Ok
returns-in-Ok g c =
    let had = c.rest.ensures.room ∙ c.has_room.ensures in
    let last = rested _ _ _ _ _ _ _ _ _ _ _ _ _ c.in-Ok.ensures.1 c.rest.ensures.rests in
    record {
      stays = c.in-Ok.ensures.1.serves.stays_open refl;
      run = λ before run. let k = goes_on _ _ before _ _ _ _ _ _ _ _ _ _ run last had _ c.get.ensures.value in (k.0, c.in-Ok.ensures.0, k.1, _, k.2);
      lives = keeps_life _ _ _ _ _ _ _ _ _ _ (λ before run. (goes_on _ _ before _ _ _ _ _ _ _ _ _ _ run last had _ c.get.ensures.value).0);
    }

pub send_last-last-requires : goal.send_last-last-requires
send_last-last-requires g c = can_close _ _ c.in-Err.ensures.1.serves.can_close

pub close_conn-requires : goal.close_conn-requires
close_conn-requires g c = can_close _ _ (closing _ _ _ _ _ _ _ _ _ _ _ _ _ _ _ _ _ _ c.in-Err.ensures.1 c.send_last-last.ensures).serves.can_close

pub returns-in-Err : goal.returns-in-Err
returns-in-Err g c =
    let last = closing _ _ _ _ _ _ _ _ _ _ _ _ _ _ _ _ _ _ c.in-Err.ensures.1 c.send_last-last.ensures in
    record {
      stays = tt;
      run = λ before run.
          let k = ends _ _ before _ _ _ _ _ _ _ _ _ _ _ _ _ _ _ run last c.close_conn.ensures.closes c.close_conn.ensures.fails c.say_last-said.ensures _ c.get.ensures.value in
          (k.0, c.in-Err.ensures.0, k.1, _, k.2);
      lives = keeps_life _ _ _ _ _ _ _ _ (g.C.Conn.is_open c.close_conn.new.conn) (g.C.Conn.has_room c.close_conn.new.conn) (λ before run.
          (ends _ _ before _ _ _ _ _ _ _ _ _ _ _ _ _ _ _ run last c.close_conn.ensures.closes c.close_conn.ensures.fails c.say_last-said.ensures _ c.get.ensures.value).0);
    }
