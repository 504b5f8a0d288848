-- Messages redelivered one after another come to the same as all of them at once.
use Rattle.std.proofs.Common.{◌≡◌, ℕ, ◌+◌, ◌<◌, min, List, [], ◌∷◌, Some, None, Option, Bool, true, false, cond, refl, ap, ap₂, ◌∙◌, sym, subst}
use Rattle.std.specs.Prelude.{◌||◌, ◌&&◌, not, is_some}
use Rattle.std.specs.Option.{unwrap_or}
use Rattle.std.specs.FinMap as map_of
use Rattle.position_core.specs.declared.position.Position.{Position}
use Rattle.position_core.specs.declared.message.Entry.{Entry}
use Rattle.position_core.specs.declared.held.Held.{Held}
use Rattle.position_core.specs.Position.{position_cmp, same_position, positions_total, exact_positions}
use Rattle.delivery_machine.specs.State.{Member, Subscription}
use Rattle.delivery_machine.specs.Acknowledging.{is_one_of}
use Rattle.delivery_machine.specs.Ticking.{counted_again, pending_positions_in, recounted, redelivering}
use Rattle.delivery_machine.specs.WellFormed.{has_message}
use Rattle.delivery_machine.proofs.Deciding.{and_second}
use Rattle.delivery_machine.proofs.Messages.{position_itself}
use Rattle.delivery_machine.proofs.Tended.{position_is}
use Rattle.pending_core.specs.Pending.{count_at, most_count}
use Rattle.topic_subscriptions.specs.Placed.{IsPlacedIn, Placed, redelivered_at, sub_in}
use Rattle.topic_subscriptions.proofs.Changes.{redelivered_in, redelivered_placed}
use Rattle.topic_parts.proofs.Pending.{indexed}
use Rattle.tick_events.specs.Rewinding.{IsRecounted}
use Rattle.tick_events.proofs.Listed.{AreOfLog, Holding, all_listed, fewer, one_listed}

abbrev Counts : Type 0
Counts = map_of.FinMap position_cmp ℕ

-- ---- what is found in the maps

got_others : (m : Holding) (ps : List Position) (q : Position) → map_of.get (map_of.retain_keys m (λ p. not (is_one_of ps p))) q ≡ cond (not (is_one_of ps q)) (map_of.get m q) None
got_others m ps q = map_of.get-retain_keys m (λ p. not (is_one_of ps p)) q (λ x same. ap (λ p. not (is_one_of ps p)) (sym (exact_positions q x same)))

got_recounted : (ps : List Position) (counts : Counts) (q : Position) → map_of.get (recounted ps counts) q ≡ cond (is_one_of ps q) (Some (counted_again (unwrap_or (map_of.get counts q) 0))) (map_of.get counts q)
got_recounted [] counts q = refl
got_recounted (p ∷ ps) counts q =
    map_of.get-insert positions_total (recounted ps counts) p (counted_again (unwrap_or (map_of.get counts p) 0)) q
    ∙ by (same_position q p) refl (got_recounted ps counts q)
  where
    by : (b : Bool) → same_position q p ≡ b → map_of.get (recounted ps counts) q ≡ cond (is_one_of ps q) (Some (counted_again (unwrap_or (map_of.get counts q) 0))) (map_of.get counts q)
        → cond b (Some (counted_again (unwrap_or (map_of.get counts p) 0))) (map_of.get (recounted ps counts) q) ≡ cond (b || is_one_of ps q) (Some (counted_again (unwrap_or (map_of.get counts q) 0))) (map_of.get counts q)
    by true same rest = ap (λ (x : Position). Some (counted_again (unwrap_or (map_of.get counts x) 0))) (sym (position_is q p same))
    by false differ rest = rest

-- ---- one first, and then the rest

module _ (sub : Subscription) (p : Position) (rest all : List Position) (each : (q : Position) → is_one_of all q ≡ (same_position q p || is_one_of rest q)) (apart : is_one_of rest p ≡ false) where
  pending_after : map_of.retain_keys (map_of.retain_keys sub.pending (λ x. not (is_one_of (p ∷ []) x))) (λ x. not (is_one_of rest x)) ≡ map_of.retain_keys sub.pending (λ x. not (is_one_of all x))
  pending_after = map_of.same_map positions_total exact_positions _ _ (λ q.
      got_others (map_of.retain_keys sub.pending (λ x. not (is_one_of (p ∷ []) x))) rest q
      ∙ ap (λ o. cond (not (is_one_of rest q)) o None) (got_others sub.pending (p ∷ []) q)
      ∙ by (same_position q p) (is_one_of rest q) (map_of.get sub.pending q)
      ∙ ap (λ b. cond (not b) (map_of.get sub.pending q) None) (sym (each q))
      ∙ sym (got_others sub.pending all q))
    where
      by : (a b : Bool) (o : Option Held) → cond (not b) (cond (not (a || false)) o None) None ≡ cond (not (a || b)) o None
      by true true o = refl
      by true false o = refl
      by false true o = refl
      by false false o = refl

  counts_after : recounted rest (recounted (p ∷ []) sub.counts) ≡ recounted all sub.counts
  counts_after = map_of.same_map positions_total exact_positions _ _ (λ q.
      got_recounted rest (recounted (p ∷ []) sub.counts) q
      ∙ ap (λ (o : Option ℕ). cond (is_one_of rest q) (Some (counted_again (unwrap_or o 0))) o) (got_recounted (p ∷ []) sub.counts q)
      ∙ by q (same_position q p) refl
      ∙ ap (λ b. cond b (Some (counted_again (unwrap_or (map_of.get sub.counts q) 0))) (map_of.get sub.counts q)) (sym (each q))
      ∙ sym (got_recounted all sub.counts q))
    where
      by : (q : Position) (a : Bool) → same_position q p ≡ a
          → cond (is_one_of rest q) (Some (counted_again (unwrap_or (cond (same_position q p || false) (Some (counted_again (unwrap_or (map_of.get sub.counts q) 0))) (map_of.get sub.counts q)) 0))) (cond (same_position q p || false) (Some (counted_again (unwrap_or (map_of.get sub.counts q) 0))) (map_of.get sub.counts q))
          ≡ cond (same_position q p || is_one_of rest q) (Some (counted_again (unwrap_or (map_of.get sub.counts q) 0))) (map_of.get sub.counts q)
      by q true same =
          ap₂ (λ (a r : Bool). cond r (Some (counted_again (unwrap_or (cond (a || false) (Some (counted_again (unwrap_or (map_of.get sub.counts q) 0))) (map_of.get sub.counts q)) 0))) (cond (a || false) (Some (counted_again (unwrap_or (map_of.get sub.counts q) 0))) (map_of.get sub.counts q)))
          same (ap (is_one_of rest) (position_is q p same) ∙ apart)
          ∙ sym (ap (λ (a : Bool). cond (a || is_one_of rest q) (Some (counted_again (unwrap_or (map_of.get sub.counts q) 0))) (map_of.get sub.counts q)) same)
      by q false differ =
          ap (λ (a : Bool). cond (is_one_of rest q) (Some (counted_again (unwrap_or (cond (a || false) (Some (counted_again (unwrap_or (map_of.get sub.counts q) 0))) (map_of.get sub.counts q)) 0))) (cond (a || false) (Some (counted_again (unwrap_or (map_of.get sub.counts q) 0))) (map_of.get sub.counts q))) differ
          ∙ sym (ap (λ (a : Bool). cond (a || is_one_of rest q) (Some (counted_again (unwrap_or (map_of.get sub.counts q) 0))) (map_of.get sub.counts q)) differ)

  pub one_then_rest : redelivering rest (redelivering (p ∷ []) sub) ≡ redelivering all sub
  one_then_rest = ap₂ (λ (m : Holding) (n : Counts). record sub { pending = m; counts = n }) pending_after counts_after

-- where nothing is pending, nothing is redelivered
pub none_redelivered : (sub : Subscription) (ps : List Position) → ((q : Position) → is_one_of ps q ≡ false) → redelivering ps sub ≡ sub
none_redelivered sub ps none = ap₂ (λ (m : Holding) (n : Counts). record sub { pending = m; counts = n })
    (map_of.same_map positions_total exact_positions _ _ (λ q. got_others sub.pending ps q ∙ ap (λ b. cond (not b) (map_of.get sub.pending q) None) (none q)))
    (map_of.same_map positions_total exact_positions _ _ (λ q. got_recounted ps sub.counts q ∙ ap (λ b. cond b (Some (counted_again (unwrap_or (map_of.get sub.counts q) 0))) (map_of.get sub.counts q)) (none q)))

-- ---- the loop over one subscription

-- all of the log that is pending, redelivered
abbrev pub rewound : List Entry → Subscription → Subscription
rewound log sub = redelivering (pending_positions_in log sub) sub

-- so far it comes to the same
pub record ComesToTheSame (old now : Placed) : Type 0 where
  pub same : (log : List Entry) (members : List Member) → IsPlacedIn log members old → rewound log (sub_in log now) ≡ rewound log (sub_in log old)
  pub placed : (log : List Entry) (members : List Member) → IsPlacedIn log members old → IsPlacedIn log members now

pub begins : (x : Placed) → ComesToTheSame x x
begins x = record { same = λ log members placed. refl; placed = λ log members placed. placed }

pub of_log : (log : List Entry) (members : List Member) (x : Placed) → IsPlacedIn log members x → AreOfLog log x.pending.pending
of_log log members x placed q key = (let live = placed.pending q key in indexed log q live.place live.there)

rewound_one : (log : List Entry) (members : List Member) (x : Placed) (p : Position) → map_of.contains_key x.pending.pending p ≡ true → IsPlacedIn log members x → rewound log (sub_in log (redelivered_at p x)) ≡ rewound log (sub_in log x)
rewound_one log members x p key placed =
    ap (rewound log) (redelivered_in log x p key)
    ∙ one_then_rest (sub_in log x) p (pending_positions_in log (redelivering (p ∷ []) (sub_in log x))) (pending_positions_in log (sub_in log x)) each apart
  where
    m : Holding
    m = x.pending.pending

    left : Holding
    left = map_of.retain_keys x.pending.pending (λ q. not (is_one_of (p ∷ []) q))

    key_left : (q : Position) → map_of.contains_key left q ≡ (not (same_position q p) && map_of.contains_key x.pending.pending q)
    key_left q = ap is_some (got_others x.pending.pending (p ∷ []) q) ∙ by (same_position q p) (map_of.get x.pending.pending q)
      where
        by : (b : Bool) (o : Option Held) → is_some (cond (not (b || false)) o None) ≡ (not b && is_some o)
        by true o = refl
        by false o = refl

    left_of_log : AreOfLog log left
    left_of_log q is = of_log log members x placed q (and_second (not (same_position q p)) (map_of.contains_key x.pending.pending q) (sym (key_left q) ∙ is))

    each : (q : Position) → is_one_of (pending_positions_in log (sub_in log x)) q ≡ (same_position q p || is_one_of (pending_positions_in log (redelivering (p ∷ []) (sub_in log x))) q)
    each q =
        all_listed log x.pending.pending q (of_log log members x placed)
        ∙ by (same_position q p) refl
        ∙ ap (λ b. same_position q p || b) (sym (all_listed log left q left_of_log ∙ key_left q))
      where
        by : (b : Bool) → same_position q p ≡ b → map_of.contains_key x.pending.pending q ≡ (same_position q p || (not (same_position q p) && map_of.contains_key x.pending.pending q))
        by true same = ap (map_of.contains_key x.pending.pending) (position_is q p same) ∙ key ∙ sym (ap (λ b. b || (not b && map_of.contains_key x.pending.pending q)) same)
        by false differ = sym (ap (λ b. b || (not b && map_of.contains_key x.pending.pending q)) differ)

    apart : is_one_of (pending_positions_in log (redelivering (p ∷ []) (sub_in log x))) p ≡ false
    apart = all_listed log left p left_of_log ∙ key_left p ∙ ap (λ b. not b && map_of.contains_key x.pending.pending p) (position_itself p)

pub goes_on : (old x y : Placed) (p : Position) → y ≡ redelivered_at p x → map_of.contains_key x.pending.pending p ≡ true → ComesToTheSame old x → ComesToTheSame old y
goes_on old x y p is key was = record {
  same = λ log members placed.
      ap (λ (z : Placed). rewound log (sub_in log z)) is ∙ rewound_one log members x p key (was.placed log members placed) ∙ was.same log members placed;
  placed = λ log members placed.
      subst (λ (z : Placed). IsPlacedIn log members z) (sym is) (redelivered_placed log members x p key (was.placed log members placed));
}

pub fewer_left : (x y : Placed) (p : Position) → y ≡ redelivered_at p x → map_of.contains_key x.pending.pending p ≡ true → map_of.len y.pending.pending < map_of.len x.pending.pending
fewer_left x y p is key =
    subst (λ (n : ℕ). n < map_of.len x.pending.pending) (sym (ap (λ (z : Placed). map_of.len z.pending.pending) is ∙ taken (map_of.contains_key x.pending.pending p)))
    (fewer x.pending.pending p key)
  where
    -- counted or not, it is taken out
    taken : (b : Bool) → map_of.len (map_of.remove (cond b (record x.pending { counts = map_of.insert x.pending.counts p (min (count_at x.pending p + 1) most_count) }) x.pending).pending p) ≡ map_of.len (map_of.remove x.pending.pending p)
    taken true = refl
    taken false = refl

-- nothing is left
pub ends : (old x : Placed) → ((q : Position) → map_of.get x.pending.pending q ≡ None) → ComesToTheSame old x → IsRecounted old x
ends old x none was = record {
  none = none;
  counted = λ log members placed.
      sym (none_redelivered (sub_in log x) (pending_positions_in log (sub_in log x)) (λ q. one_listed log x.pending.pending q ∙ ap (λ (o : Option Held). is_some o && has_message log q) (none q)))
      ∙ was.same log members placed;
  placed = was.placed;
}
