-- What of a session's requests is of the time of day.
use Rattle.std.specs.Prelude.{ℕ}
use Rattle.delivery_machine.specs.declared.event.Event.TheVariants.{Publish}
use Rattle.session_links.specs.declared.request.Request.{Request}
use Rattle.session_links.specs.declared.request.Request.TheVariants.{Event}

-- a publish is of the time of day; every other request stays as it is
abbrev pub dated : (day : ℕ) → Request → Request
dated day (Event (Publish producer sequence body now)) = Event (Publish producer sequence body day)
dated day request = request
