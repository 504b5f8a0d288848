use Rattle.std.proofs.Common.{Some, option_map, ap, sym, ◌∙◌}
use Rattle.session_links.specs.declared.request.Request.TheVariants.{Event as OfEvent}
use Rattle.session_links.specs.Links.{event_call}
use Rattle.session_core.proofs.ending.say_last.Goals as goal

pub returns-in-Some : goal.returns-in-Some
returns-in-Some g c = record {
  farewell = Some (event_call c.in-Some.event c.ask.result);
  event = ap (option_map OfEvent) (sym c.in-Some.is ∙ c.farewell.ensures);
  calls = c.ask.ensures;
}
