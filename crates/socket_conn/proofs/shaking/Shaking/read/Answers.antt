use Rattle.std.proofs.Common.{◌+◌, ◌-◌, ◌≤◌, ◌≡◌, length, take, drop, arith, ap, sym, ◌∙◌}
use Rattle.std.proofs.lemmas.List.{length-take}
use Rattle.socket_conn.proofs.ShakesLemmas.{grown, kept_head, in_front}
use Rattle.socket_conn.specs.declared.held.Held.{Held}
use Rattle.socket_conn.proofs.shaking.Shaking.read.Goals as goal

pub returns-in-Ok : goal.returns-in-Ok
returns-in-Ok g c =
    let old = c.args.self.now.head.items in
    let len = c.len-len.result in
    let long : len ≡ length old = omega (arith, c.args.self.now.head.ok.0, c.len-len.ensures) in
    let z = c.deref_mut.result.now in
    let room : length z ≡ len + 2048 = c.deref_mut.ensures.len ∙ c.in_ok-resize.ensures.len in
    let front : take len z ≡ old = in_front old z _ len 2048 long (c.deref_mut.ensures.value ∙ c.in_ok-resize.ensures.items) in
    let within : c.in-Ok.count ≤ length c.read-got.new.buf = c.in-Ok.ensures.bound.0 in
    let most = length-take (length z - len) (drop len z) in
    let fits : len + c.in-Ok.count ≤ c.resize.new.self.len = omega (arith, within, room, most, c.read-got.auto.buf, c.in_ok-resize.ensures.len) in
    ((_, c.in-Ok.ensures.bytes.0, grown old (take len z) c.read-got.new.buf _ _ c.truncate.new.self.items len c.resize.new.self.len c.in-Ok.count long front within fits c.truncate.ensures.items), ap (λ (d : Held _). d.dry) c.in-Ok.ensures.counted)

pub returns-then-times_dry-dry : goal.returns-then-times_dry-dry
returns-then-times_dry-dry g c =
    let old = c.args.self.now.head.items in
    let len = c.len-len.result in
    let long : len ≡ length old = omega (arith, c.args.self.now.head.ok.0, c.len-len.ensures) in
    let z = c.deref_mut.result.now in
    let front : take len z ≡ old = in_front old z _ len 2048 long (c.deref_mut.ensures.value ∙ c.in_ok-resize.ensures.items) in
    let fits : len ≤ c.resize.new.self.len = omega (arith, c.in_ok-resize.ensures.len) in
    (c.in-Err.ensures.bytes, kept_head old (take len z) c.read-got.new.buf _ _ c.truncate-in-Err.new.self.items len c.resize.new.self.len long front fits c.truncate-in-Err.ensures.items, λ e. c.if-times_dry-dry.true (c.times_dry.ensures ∙ e ∙ sym c.times_dry-dry.ensures))
