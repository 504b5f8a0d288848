use Rattle.std.proofs.Common.{◌≡◌, string_bytes, ap, ap₂, ◌∙◌, rules}
use Rattle.serde_json.specs.Data.{put}
use Rattle.serde_json.specs.View.{members_view}
use Rattle.serde_json.proofs.Views.{members_view-insert_entry}
use Rattle.json_glances.proofs.shallow.keep.Goals as goal

pub returns-in-Ok : goal.returns-in-Ok
returns-in-Ok c =
    let old = c.args.found.now.entries in
    let copied : string_bytes c.in_ok-name.name ≡ c.args.name.now = search rules in
    ap members_view c.in-Ok.ensures.entries ∙ members_view-insert_entry old c.in_ok-name.name c.in_ok-value.value ∙ ap₂ (λ name d. put name d (members_view old)) copied c.in_ok-value.ensures
