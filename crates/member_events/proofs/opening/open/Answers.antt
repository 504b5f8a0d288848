use Rattle.std.proofs.Common.{◌≡◌, ◌≤◌, ◌∙◌, ℕ, List, All, ap, arith, length, map, slice_get, sym, subst, subst₂}
use Rattle.std.specs.List.{insert, position, position_or_len, remove}
use Rattle.std.proofs.lemmas.Option.{same_Some}
use Rattle.std.specs.Ordering.{is_lt}
use Rattle.position_core.specs.Name.{name_order}
use Rattle.topic_log.specs.Written.{all_of}
use Rattle.dedup_core.specs.Sequences.{AgreesWith}
use Rattle.topic_served.specs.Agreeing.{agrees}
use Rattle.topic_served.specs.Told.{AreTold}
use Rattle.topic_served.specs.declared.dispatch.Dispatch.{Dispatch}
use Rattle.topic_served.proofs.Spots.{inserted_at}
use Rattle.topic_subscriptions.specs.Placed.{IsPlacedIn, Placed, is_placed, sub_in}
use Rattle.topic_parts.specs.declared.parts.Parts.{Parts}
use Rattle.topic_parts.specs.Parts.{AreTied, log_of, state_of}
use Rattle.topic_served.specs.Served.{IsBound}
use Rattle.member_events.specs.Entering.{made_bare}
use Rattle.member_events.proofs.Opened.{back_out, bare_there, bound_again, place_opened, state_opened, tied_opened, told_opened}
use Rattle.member_events.proofs.opening.open.Goals as goal

low_in : (place : ℕ) (seen items : List Placed) → place ≤ length seen → seen ≡ items → place ≤ length items
low_in place seen items low same = omega (arith, low, ap (λ (xs : List Placed). length xs) same)

again : (items inserted left : List Placed) (place : ℕ) (y : Placed) → place ≤ length items → inserted ≡ insert items place y → left ≡ remove inserted place → left ≡ items
again items inserted left place y low is back = back ∙ ap (λ (xs : List Placed). remove xs place) is ∙ back_out items place y low

pub begin_at-requires-clause-tied : goal.begin_at-requires-clause-tied
begin_at-requires-clause-tied c =
    let t = c.args.served.now.parts in
    let y = made_bare c.args.name c.args.kind c.end_at-end.result in
    let rising = c.len-length.ensures.rising in
    let is = ap (made_bare c.args.name c.args.kind) c.end_at-end.ensures in
    let goes = c.place_for-place.ensures.value ∙ ap (position_or_len (λ (other : Placed). is_lt (name_order c.args.name other.name))) c.deref.ensures.value in
    let low = low_in c.place_for-place.result c.deref.result.now t.subscriptions.items c.place_for-place.ensures.within c.deref.ensures.value in
    subst AreTied (sym c.in-Ok.ensures.rest)
    (subst (λ (xs : List Placed). All (IsPlacedIn (log_of t) t.members.members) xs) (sym c.in-Ok.ensures.ok)
    (tied_opened t c.place_for-place.result c.args.name c.args.kind c.args.initial y rising is goes low c.requires.bound.tied c.requires.nobody))

pub begin_at-requires-clause-bare : goal.begin_at-requires-clause-bare
begin_at-requires-clause-bare c =
    let t = c.args.served.now.parts in
    let y = made_bare c.args.name c.args.kind c.end_at-end.result in
    let rising = c.len-length.ensures.rising in
    let is = ap (made_bare c.args.name c.args.kind) c.end_at-end.ensures in
    let goes = c.place_for-place.ensures.value ∙ ap (position_or_len (λ (other : Placed). is_lt (name_order c.args.name other.name))) c.deref.ensures.value in
    let low = low_in c.place_for-place.result c.deref.result.now t.subscriptions.items c.place_for-place.ensures.within c.deref.ensures.value in
    bare_there t c.place_for-place.result c.args.name c.args.kind c.args.initial y rising is goes c.put_in.new.parts low c.in-Ok.ensures.ok (ap (λ (u : Parts). u.members.members) c.in-Ok.ensures.rest) c.requires.nobody

pub returns-in-Ok-begin_at-clause-ok : goal.returns-in-Ok-begin_at-clause-ok
returns-in-Ok-begin_at-clause-ok c =
    let t = c.args.served.now.parts in
    let y = made_bare c.args.name c.args.kind c.end_at-end.result in
    let rising = c.len-length.ensures.rising in
    let is = ap (made_bare c.args.name c.args.kind) c.end_at-end.ensures in
    let goes = c.place_for-place.ensures.value ∙ ap (position_or_len (λ (other : Placed). is_lt (name_order c.args.name other.name))) c.deref.ensures.value in
    ap state_of (c.begin_at.ensures.parts ∙ c.in-Ok.ensures.rest)
    ∙ ap (λ (xs : List Placed). record (state_of t) { subscriptions = map (sub_in (log_of t)) xs }) c.in-Ok.ensures.ok
    ∙ state_opened t c.place_for-place.result c.args.name c.args.kind c.args.initial y rising is goes

pub returns-in-Ok-begin_at-clause-place : goal.returns-in-Ok-begin_at-clause-place
returns-in-Ok-begin_at-clause-place c =
    let t = c.args.served.now.parts in
    let y = made_bare c.args.name c.args.kind c.end_at-end.result in
    let rising = c.len-length.ensures.rising in
    let is = ap (made_bare c.args.name c.args.kind) c.end_at-end.ensures in
    let goes = c.place_for-place.ensures.value ∙ ap (position_or_len (λ (other : Placed). is_lt (name_order c.args.name other.name))) c.deref.ensures.value in
    place_opened t c.place_for-place.result c.args.name c.args.kind c.args.initial y rising is goes c.requires.absent
    ∙ ap (position (is_placed c.args.name)) (sym c.in-Ok.ensures.ok)
    ∙ ap (λ (u : Parts). position (is_placed c.args.name) u.subscriptions.items) (sym c.begin_at.ensures.parts)

pub returns-in-Ok-begin_at-clause-unshared : goal.returns-in-Ok-begin_at-clause-unshared
returns-in-Ok-begin_at-clause-unshared c p at =
    let t = c.args.served.now.parts in
    let y = made_bare c.args.name c.args.kind c.end_at-end.result in
    let place = c.place_for-place.result in
    let low = low_in place c.deref.result.now t.subscriptions.items c.place_for-place.ensures.within c.deref.ensures.value in
    ap (λ (q : Placed). q.shares)
    (same_Some p y (at ∙ ap (λ (u : Parts). slice_get u.subscriptions.items place) c.begin_at.ensures.parts
    ∙ ap (λ (xs : List Placed). slice_get xs place) c.in-Ok.ensures.ok ∙ inserted_at t.subscriptions.items place y low))

pub returns-in-Ok-begin_at-clause-bound : goal.returns-in-Ok-begin_at-clause-bound
returns-in-Ok-begin_at-clause-bound c =
    let t = c.args.served.now.parts in
    let y = made_bare c.args.name c.args.kind c.end_at-end.result in
    let rising = c.len-length.ensures.rising in
    let is = ap (made_bare c.args.name c.args.kind) c.end_at-end.ensures in
    let goes = c.place_for-place.ensures.value ∙ ap (position_or_len (λ (other : Placed). is_lt (name_order c.args.name other.name))) c.deref.ensures.value in
    let low = low_in c.place_for-place.result c.deref.result.now t.subscriptions.items c.place_for-place.ensures.within c.deref.ensures.value in
    let place = c.place_for-place.result in
    let s = state_of t in
    let u = c.put_in.new.parts in
    let at = sym (ap (λ (xs : List Placed). slice_get xs place) c.in-Ok.ensures.ok ∙ inserted_at t.subscriptions.items place y low) in
    let begun = c.in-Ok-begin_at.ensures.ok y at in
    let agreeing = subst (λ (xs : List Placed). agrees begun.begun (record s { subscriptions = map (sub_in (log_of t)) xs }) (sub_in (log_of t) y)) c.in-Ok.ensures.ok
    (subst (λ (v : Parts). agrees begun.begun (state_of v) (sub_in (log_of v) y)) c.in-Ok.ensures.rest begun.agreeing) in
    let same = sym (c.begin_at.ensures.parts ∙ c.in-Ok.ensures.rest) in
    record {
      numbers = subst (λ (v : Parts). AgreesWith (all_of v.log) v.log.numbers) same c.requires.bound.numbers;
      tied = subst AreTied same
          (subst (λ (xs : List Placed). All (IsPlacedIn (log_of t) t.members.members) xs) (sym c.in-Ok.ensures.ok)
          (tied_opened t place c.args.name c.args.kind c.args.initial y rising is goes low c.requires.bound.tied c.requires.nobody));
      told = subst₂ (λ (v : Parts) (ds : List Dispatch). AreTold ds (state_of v)) same (sym begun.is)
          (subst (λ (xs : List Placed). AreTold (insert c.args.served.now.dispatchers.items place begun.begun) (record s { subscriptions = map (sub_in (log_of t)) xs })) (sym c.in-Ok.ensures.ok)
          (told_opened t place c.args.name c.args.kind c.args.initial y rising is goes c.args.served.now.dispatchers.items begun.begun low c.requires.bound.told agreeing));
    }

pub returns-in-Err-begin_at-clause-same : goal.returns-in-Err-begin_at-clause-same
returns-in-Err-begin_at-clause-same c =
    let t = c.args.served.now.parts in
    let v = c.remove_subscription.new.parts in
    let y = made_bare c.args.name c.args.kind c.end_at-end.result in
    let low = low_in c.place_for-place.result c.deref.result.now t.subscriptions.items c.place_for-place.ensures.within c.deref.ensures.value in
    ap state_of (c.remove_subscription.ensures.rest ∙ ap (λ (u : Parts). record u { subscriptions = v.subscriptions }) (c.begin_at.ensures.parts ∙ c.in-Ok.ensures.rest))
    ∙ ap (λ (xs : List Placed). record (state_of t) { subscriptions = map (sub_in (log_of t)) xs })
    (again t.subscriptions.items c.begin_at.new.served.parts.subscriptions.items v.subscriptions.items c.place_for-place.result y low (ap (λ (u : Parts). u.subscriptions.items) c.begin_at.ensures.parts ∙ c.in-Ok.ensures.ok) c.remove_subscription.ensures.items)

pub returns-in-Err-begin_at-clause-bound : goal.returns-in-Err-begin_at-clause-bound
returns-in-Err-begin_at-clause-bound c =
    let t = c.args.served.now.parts in
    let v = c.remove_subscription.new.parts in
    let ds = c.begin_at.new.served.dispatchers in
    let y = made_bare c.args.name c.args.kind c.end_at-end.result in
    let low = low_in c.place_for-place.result c.deref.result.now t.subscriptions.items c.place_for-place.ensures.within c.deref.ensures.value in
    let rest = c.remove_subscription.ensures.rest ∙ ap (λ (u : Parts). record u { subscriptions = v.subscriptions }) (c.begin_at.ensures.parts ∙ c.in-Ok.ensures.rest) in
    let items = again t.subscriptions.items c.begin_at.new.served.parts.subscriptions.items v.subscriptions.items c.place_for-place.result y low (ap (λ (u : Parts). u.subscriptions.items) c.begin_at.ensures.parts ∙ c.in-Ok.ensures.ok) c.remove_subscription.ensures.items in
    subst (λ (u : Parts). IsBound (record { parts = u; dispatchers = ds })) (sym rest)
    (bound_again c.args.served.now v.subscriptions ds items c.in-Err-begin_at.ensures.same c.requires.bound)
