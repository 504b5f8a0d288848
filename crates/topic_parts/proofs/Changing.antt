-- One of the subscriptions changes.
use Rattle.std.proofs.Common.{◌≡◌, ℕ, ◌<◌, ◌≤◌, List, map, length, Some, All, get_or, set, slice_get, refl, ap, ◌∙◌, sym, subst}
use Rattle.std.specs.List.{find, position}
use Rattle.std.specs.Prelude.{Vec}
use Rattle.std.specs.Vec.{with_item}
use Rattle.std.proofs.Props.{props}
use Rattle.std.proofs.lemmas.List.{get_or_default, set-get_or}
use Rattle.std.proofs.lemmas.List.Elements.{All-contains, All-set}
use Rattle.std.proofs.lemmas.Option.{slice_get_within, get_or_from_slice_get}
use Rattle.std.proofs.lemmas.List.Quantifiers.{position-Some}
use Rattle.position_core.specs.declared.message.Entry.{Entry}
use Rattle.delivery_machine.specs.State.{Member, Subscription}
use Rattle.delivery_machine.specs.Words.{changed, is_named}
use Rattle.topic_subscriptions.specs.Placed.{IsPlacedIn, Placed, is_placed, line_at, sub_in}
use Rattle.topic_parts.proofs.Acknowledged.{placed_beside}
use Rattle.topic_parts.proofs.Mapped.{changed_mapped, found_mapped}

-- the others stay as they are, and members keep their lines
pub tied_at : (log : List Entry) (before after : List Member) (subs : List Placed) (place : ℕ) (y : Placed) → ((name : List ℕ) → line_at name after ≡ line_at name before)
    → All (IsPlacedIn log before) subs → IsPlacedIn log after y → All (IsPlacedIn log after) (set subs place y)
tied_at log before after subs place y lines tied new =
    All-set (IsPlacedIn log after) subs place y new (λ k d lt. placed_beside log before after (get_or subs k d) (lines (get_or subs k d).name) (tied k d lt))

module _ (log : List Entry) (subs : List Placed) (name : List ℕ) (place : ℕ) (there : Some place ≡ position (is_placed name) subs) where
  pub within : (d : Placed) → place < length subs
  within d = (position-Some (is_placed name) subs place d (sym there)).0

  -- what is written at its place
  pub changed_sub : (f : Subscription → Subscription) (x y : Placed) → x ≡ get_or subs place x → sub_in log y ≡ f (sub_in log x) → map (sub_in log) (set subs place y) ≡ changed (is_named name) f (map (sub_in log) subs)
  changed_sub f x y at is = changed_mapped (sub_in log) (is_placed name) (is_named name) (λ _. refl) f subs place x y there (is ∙ ap (λ (p : Placed). f (sub_in log p)) at)

  pub named_sub : (x : Placed) → x ≡ get_or subs place x → find (is_named name) (map (sub_in log) subs) ≡ Some (sub_in log x)
  named_sub x at = found_mapped (sub_in log) (is_placed name) (is_named name) (λ _. refl) subs place x there ∙ ap (λ (p : Placed). Some (sub_in log p)) (sym at)

  -- two reads of it
  pub read_twice : (x y : Placed) → x ≡ get_or subs place x → y ≡ get_or subs place y → x ≡ y
  read_twice x y at_x at_y = at_x ∙ get_or_default subs place x y (within x) ∙ sym at_y

  pub placed_there : (ms : List Member) (x : Placed) → All (IsPlacedIn log ms) subs → x ≡ get_or subs place x → IsPlacedIn log ms x
  placed_there ms x tied at = All-contains (IsPlacedIn log ms) subs x tied (place, within x, sym at)

-- what was there is written back
pub written_back : {A : Type 0} (xs : List A) (place : ℕ) (x y : A) → x ≡ get_or xs place x → y ≡ x → set xs place y ≡ xs
written_back xs place x y at same = ap (set xs place) (same ∙ at) ∙ set-get_or xs place x

same_items : {X Z : Type 0} (v : Vec X Z) (items : List X) (ok : (v.len ≡ length items) × (v.len ≤ v.cap)) → v.items ≡ items → record v { items = items; ok = ok } ≡ v
same_items {X} {Z} v items ok same = subst (λ (xs : List X). (o : (v.len ≡ length xs) × (v.len ≤ v.cap)) → record v { items = xs; ok = o } ≡ v) same (λ o. ap (λ q. record v { ok = q }) (one o)) ok
  where
    one : (o : (v.len ≡ length v.items) × (v.len ≤ v.cap)) → o ≡ v.ok
    one o = (let p : IsProp ((v.len ≡ length v.items) × (v.len ≤ v.cap)) = Prim.hlevel props in p o v.ok)

pub with_same : {X Z : Type 0} (v : Vec X Z) (i : ℕ) (x : X) → set v.items i x ≡ v.items → with_item v i x ≡ v
with_same v i x same = same_items v (set v.items i x) _ (sym same)

-- what is read at a place stands there
pub there_is : {A : Type 0} (xs : List A) (i : ℕ) (x y : A) → x ≡ get_or xs i x → Some y ≡ slice_get xs i → x ≡ y
there_is xs i x y at is = at ∙ get_or_default xs i x y (slice_get_within xs i y (sym is)) ∙ get_or_from_slice_get xs i y y (sym is)
