use Rattle.std.proofs.Common.{subst, sym}
use Rattle.position_core.specs.TopicName.{topic_text}
use Rattle.row_forms.specs.Standing.{Has}
use Rattle.row_store.proofs.planning.plan_between.Goals as goal

pub returns-in-Ok-between-clause-fits : goal.returns-in-Ok-between-clause-fits
returns-in-Ok-between-clause-fits c = λ db stands.
    let led = c.in-Ok-between.ensures.leads stands.0 stands.1 in
    record {
      olds = stands.0;
      news = led.0;
      are = led.1;
      leads = led.2;
      stood = subst (λ name. Has (topic_text name) stands.0 db) (sym c.requires.name) stands.2;
    }
