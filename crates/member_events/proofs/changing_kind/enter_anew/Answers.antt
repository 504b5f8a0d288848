use Rattle.std.proofs.Common.{◌∙◌, List, ap, refl, set, subst, sym}
use Rattle.std.specs.Vec.{with_item}
use Rattle.std.proofs.lemmas.Option.{get_or_from_slice_get}
use Rattle.dedup_core.specs.Sequences.{AgreesWith}
use Rattle.delivery_machine.specs.State.{State}
use Rattle.delivery_machine.specs.Joining as machine
use Rattle.dispatch_core.specs.Changes.{Joined}
use Rattle.topic_served.specs.Told.{AreTold}
use Rattle.topic_served.specs.declared.dispatch.Dispatch.{Dispatch}
use Rattle.topic_served.proofs.Spots.{set_at}
use Rattle.topic_served.proofs.Asking.{asks_for_free}
use Rattle.topic_log.specs.Written.{all_of, Written}
use Rattle.topic_members.specs.Members.{joining}
use Rattle.topic_subscriptions.specs.Placed.{Placed, is_placed, sub_in}
use Rattle.topic_parts.specs.declared.parts.Parts.{Parts}
use Rattle.topic_parts.specs.Parts.{log_of, state_of}
use Rattle.topic_parts.proofs.Changing.{read_twice}
use Rattle.topic_served.proofs.Telling.{are_told_within, one_stands, told_there}
use Rattle.member_events.specs.Entering.{StaysAs, entered}
use Rattle.member_events.specs.Places.{names_of}
use Rattle.member_events.proofs.Entered.{happens_entered, same_state, set_twice}
use Rattle.member_events.proofs.Kinded.{asks_well, bare_kind, bound_stays, may_still, names_kind, state_kind, taken_back, tied_kind, told_kind, written}
use Rattle.member_events.proofs.Standing.{same_place}
use Rattle.member_events.proofs.changing_kind.enter_anew.Goals as goal

pub begin-requires-clause-tied : goal.begin-requires-clause-tied
begin-requires-clause-tied c =
    let t = c.args.served.now.parts in
    let place = c.args.place in
    let name = c.args.name in
    let x = c.index_mut.result.now in
    let y = c.set_kind.new.self in
    let at = c.index_mut.ensures.value in
    let is = c.set_kind.ensures in
    tied_kind t place name c.args.kind x y c.requires.may at is

pub begin-requires-clause-bare : goal.begin-requires-clause-bare
begin-requires-clause-bare c =
    let t = c.args.served.now.parts in
    let place = c.args.place in
    let name = c.args.name in
    let x = c.index_mut.result.now in
    let y = c.set_kind.new.self in
    let at = c.index_mut.ensures.value in
    let is = c.set_kind.ensures in
    bare_kind t place name c.args.kind x y c.requires.may at is c.requires.nobody c.requires.unshared

pub returns-in_default-clause-names : goal.returns-in_default-clause-names
returns-in_default-clause-names c =
    let t = c.args.served.now.parts in
    let place = c.args.place in
    let name = c.args.name in
    let x = c.index_mut.result.now in
    let y = c.set_kind.new.self in
    let at = c.index_mut.ensures.value in
    let is = c.set_kind.ensures in
    let kind_is = c.kind-before.ensures ∙ ap (λ (p : Placed). p.kind) (read_twice (log_of t) t.subscriptions.items name place c.requires.may.named c.index.result.now x c.index.ensures at) in
    let final : Parts = record t { subscriptions = with_item (with_item t.subscriptions place y) place c.set_kind-in_default.new.self } in
    let stays : StaysAs t final = record {
      rest = refl;
      members = refl;
      next = refl;
      items = taken_back t place name c.args.kind x y c.requires.may at is (set t.subscriptions.items place y) c.index_mut-in_default.result.now c.set_kind-in_default.new.self c.kind-before.result refl c.index_mut-in_default.ensures.value c.set_kind-in_default.ensures kind_is;
    } in
    ap names_of stays.items

pub returns-in_default-clause-same : goal.returns-in_default-clause-same
returns-in_default-clause-same c =
    let t = c.args.served.now.parts in
    let place = c.args.place in
    let name = c.args.name in
    let x = c.index_mut.result.now in
    let y = c.set_kind.new.self in
    let at = c.index_mut.ensures.value in
    let is = c.set_kind.ensures in
    let kind_is = c.kind-before.ensures ∙ ap (λ (p : Placed). p.kind) (read_twice (log_of t) t.subscriptions.items name place c.requires.may.named c.index.result.now x c.index.ensures at) in
    let final : Parts = record t { subscriptions = with_item (with_item t.subscriptions place y) place c.set_kind-in_default.new.self } in
    let stays : StaysAs t final = record {
      rest = refl;
      members = refl;
      next = refl;
      items = taken_back t place name c.args.kind x y c.requires.may at is (set t.subscriptions.items place y) c.index_mut-in_default.result.now c.set_kind-in_default.new.self c.kind-before.result refl c.index_mut-in_default.ensures.value c.set_kind-in_default.ensures kind_is;
    } in
    same_state t final stays

pub returns-in_default-clause-bound : goal.returns-in_default-clause-bound
returns-in_default-clause-bound c =
    let t = c.args.served.now.parts in
    let place = c.args.place in
    let name = c.args.name in
    let x = c.index_mut.result.now in
    let y = c.set_kind.new.self in
    let at = c.index_mut.ensures.value in
    let is = c.set_kind.ensures in
    let kind_is = c.kind-before.ensures ∙ ap (λ (p : Placed). p.kind) (read_twice (log_of t) t.subscriptions.items name place c.requires.may.named c.index.result.now x c.index.ensures at) in
    let final : Parts = record t { subscriptions = with_item (with_item t.subscriptions place y) place c.set_kind-in_default.new.self } in
    let stays : StaysAs t final = record {
      rest = refl;
      members = refl;
      next = refl;
      items = taken_back t place name c.args.kind x y c.requires.may at is (set t.subscriptions.items place y) c.index_mut-in_default.result.now c.set_kind-in_default.new.self c.kind-before.result refl c.index_mut-in_default.ensures.value c.set_kind-in_default.ensures kind_is;
    } in
    bound_stays c.args.served.now final c.args.served.now.dispatchers stays refl c.requires.bound

pub let_in-entered-requires-clause-may : goal.let_in-entered-requires-clause-may
let_in-entered-requires-clause-may c =
    let t = c.args.served.now.parts in
    let place = c.args.place in
    let name = c.args.name in
    let x = c.index_mut.result.now in
    let y = c.set_kind.new.self in
    let at = c.index_mut.ensures.value in
    let is = c.set_kind.ensures in
    may_still t place name c.args.kind x y c.requires.may at is c.requires.unshared

pub let_in-entered-requires-clause-free : goal.let_in-entered-requires-clause-free
let_in-entered-requires-clause-free c =
    asks_well c.args.served.now.parts c.args.place c.args.name c.args.kind c.index_mut.result.now c.set_kind.new.self c.requires.may c.index_mut.ensures.value c.set_kind.ensures c.args.ranges.now c.requires.unshared

pub let_in-entered-requires-clause-untaken : goal.let_in-entered-requires-clause-untaken
let_in-entered-requires-clause-untaken c =
    let t = c.args.served.now.parts in
    let place = c.args.place in
    let x = c.index_mut.result.now in
    let y = c.set_kind.new.self in
    let at = c.index_mut.ensures.value in
    let is = c.set_kind.ensures in
    let there = written t place c.args.name c.args.kind x y c.requires.may at is in
    let now : Parts = record t { subscriptions = with_item t.subscriptions place y } in
    let well = asks_well t place c.args.name c.args.kind x y c.requires.may at is c.args.ranges.now c.requires.unshared y there in
    asks_for_free c.in-Ok.begun (state_of now) (sub_in (log_of t) y) c.args.ranges.now (c.in-Ok.ensures.ok y there) well.0

pub returns-in-Ok-entered-clause-ok : goal.returns-in-Ok-entered-clause-ok
returns-in-Ok-entered-clause-ok c =
    let t = c.args.served.now.parts in
    let place = c.args.place in
    let name = c.args.name in
    let x = c.index_mut.result.now in
    let y = c.set_kind.new.self in
    let at = c.index_mut.ensures.value in
    let is = c.set_kind.ensures in
    c.in-Ok-entered.ensures.ok.state
    ∙ ap (λ (s : State). entered s c.args.ranges.now (joining t.members.next name c.args.terms c.args.dead_topic)) (state_kind t place name c.args.kind x y c.requires.may at is)

pub returns-in-Ok-entered-clause-names : goal.returns-in-Ok-entered-clause-names
returns-in-Ok-entered-clause-names c =
    let t = c.args.served.now.parts in
    let place = c.args.place in
    let name = c.args.name in
    let x = c.index_mut.result.now in
    let y = c.set_kind.new.self in
    let at = c.index_mut.ensures.value in
    let is = c.set_kind.ensures in
    c.in-Ok-entered.ensures.ok.names ∙ names_kind t place name c.args.kind x y c.requires.may at is

pub returns-in-Ok-entered-clause-bound : goal.returns-in-Ok-entered-clause-bound
returns-in-Ok-entered-clause-bound c =
    let t = c.args.served.now.parts in
    let place = c.args.place in
    let name = c.args.name in
    let x = c.index_mut.result.now in
    let y = c.set_kind.new.self in
    let at = c.index_mut.ensures.value in
    let is = c.set_kind.ensures in
    let ds = c.args.served.now.dispatchers.items in
    let begun = c.in-Ok.begun in
    let told = c.let_in-entered.new.dispatch in
    let now : Parts = record t { subscriptions = with_item t.subscriptions place y } in
    let new = c.let_in-entered.new.parts in
    let m = joining t.members.next name c.args.terms c.args.dead_topic in
    let may = may_still t place name c.args.kind x y c.requires.may at is c.requires.unshared in
    let there = written t place name c.args.kind x y c.requires.may at is in
    let at_y = sym (get_or_from_slice_get (set t.subscriptions.items place y) place y y (sym there)) in
    let here = sym (get_or_from_slice_get (set ds place begun) place begun begun (set_at ds place begun (are_told_within ds t name place c.requires.bound.told c.requires.may.named))) in
    let v = one_stands (is_placed name) new.subscriptions.items place (may.named ∙ sym (same_place now.subscriptions.items new.subscriptions.items name c.in-Ok-entered.ensures.ok.names)) in
    record {
      numbers = subst (λ (w : Written). AgreesWith (all_of w) w.numbers) (sym c.in-Ok-entered.ensures.ok.log) c.requires.bound.numbers;
      tied = c.in-Ok-entered.ensures.ok.tied;
      told = subst (λ (d : Dispatch). AreTold (set ds place d) (state_of new)) (sym c.replace.ensures.after) (subst (λ (xs : List Dispatch). AreTold xs (state_of new)) (set_twice ds place begun told)
          (told_there (set ds place begun) now new new (entered (state_of now) c.args.ranges.now m) place (Joined c.args.ranges.now m.number) (sub_in (log_of t) y) (machine.joining y.kind c.args.ranges.now m.number (sub_in (log_of t) y)) v.0 begun told
          (told_kind t place name c.args.kind x y c.requires.may at is ds begun c.requires.bound.told (c.in-Ok.ensures.ok y there))
          (happens_entered now place m c.args.ranges.now y may refl at_y) c.in-Ok-entered.ensures.ok.state refl v.1 here (c.in-Ok-entered.ensures.ok.told v.0 v.1)));
    }

pub returns-in-Err-clause-names : goal.returns-in-Err-clause-names
returns-in-Err-clause-names c =
    let t = c.args.served.now.parts in
    let place = c.args.place in
    let name = c.args.name in
    let x = c.index_mut.result.now in
    let y = c.set_kind.new.self in
    let at = c.index_mut.ensures.value in
    let is = c.set_kind.ensures in
    let kind_is = c.kind-before.ensures ∙ ap (λ (p : Placed). p.kind) (read_twice (log_of t) t.subscriptions.items name place c.requires.may.named c.index.result.now x c.index.ensures at) in
    let new = c.let_in-entered.new.parts in
    let final : Parts = record new { subscriptions = with_item new.subscriptions place c.set_kind-in-Err.new.self } in
    let stays : StaysAs t final = record {
      rest = ap (λ (p : Parts). record p { subscriptions = with_item new.subscriptions place c.set_kind-in-Err.new.self }) c.in-Err.ensures.stays.rest;
      members = c.in-Err.ensures.stays.members;
      next = c.in-Err.ensures.stays.next;
      items = taken_back t place name c.args.kind x y c.requires.may at is new.subscriptions.items c.index_mut-in-Err.result.now c.set_kind-in-Err.new.self c.kind-before.result c.in-Err.ensures.stays.items c.index_mut-in-Err.ensures.value c.set_kind-in-Err.ensures kind_is;
    } in
    ap names_of stays.items

pub returns-in-Err-clause-same : goal.returns-in-Err-clause-same
returns-in-Err-clause-same c =
    let t = c.args.served.now.parts in
    let place = c.args.place in
    let name = c.args.name in
    let x = c.index_mut.result.now in
    let y = c.set_kind.new.self in
    let at = c.index_mut.ensures.value in
    let is = c.set_kind.ensures in
    let kind_is = c.kind-before.ensures ∙ ap (λ (p : Placed). p.kind) (read_twice (log_of t) t.subscriptions.items name place c.requires.may.named c.index.result.now x c.index.ensures at) in
    let new = c.let_in-entered.new.parts in
    let final : Parts = record new { subscriptions = with_item new.subscriptions place c.set_kind-in-Err.new.self } in
    let stays : StaysAs t final = record {
      rest = ap (λ (p : Parts). record p { subscriptions = with_item new.subscriptions place c.set_kind-in-Err.new.self }) c.in-Err.ensures.stays.rest;
      members = c.in-Err.ensures.stays.members;
      next = c.in-Err.ensures.stays.next;
      items = taken_back t place name c.args.kind x y c.requires.may at is new.subscriptions.items c.index_mut-in-Err.result.now c.set_kind-in-Err.new.self c.kind-before.result c.in-Err.ensures.stays.items c.index_mut-in-Err.ensures.value c.set_kind-in-Err.ensures kind_is;
    } in
    same_state t final stays

pub returns-in-Err-clause-bound : goal.returns-in-Err-clause-bound
returns-in-Err-clause-bound c =
    let t = c.args.served.now.parts in
    let place = c.args.place in
    let name = c.args.name in
    let x = c.index_mut.result.now in
    let y = c.set_kind.new.self in
    let at = c.index_mut.ensures.value in
    let is = c.set_kind.ensures in
    let kind_is = c.kind-before.ensures ∙ ap (λ (p : Placed). p.kind) (read_twice (log_of t) t.subscriptions.items name place c.requires.may.named c.index.result.now x c.index.ensures at) in
    let new = c.let_in-entered.new.parts in
    let final : Parts = record new { subscriptions = with_item new.subscriptions place c.set_kind-in-Err.new.self } in
    let stays : StaysAs t final = record {
      rest = ap (λ (p : Parts). record p { subscriptions = with_item new.subscriptions place c.set_kind-in-Err.new.self }) c.in-Err.ensures.stays.rest;
      members = c.in-Err.ensures.stays.members;
      next = c.in-Err.ensures.stays.next;
      items = taken_back t place name c.args.kind x y c.requires.may at is new.subscriptions.items c.index_mut-in-Err.result.now c.set_kind-in-Err.new.self c.kind-before.result c.in-Err.ensures.stays.items c.index_mut-in-Err.ensures.value c.set_kind-in-Err.ensures kind_is;
    } in
    bound_stays c.args.served.now final c.args.served.now.dispatchers stays refl c.requires.bound
