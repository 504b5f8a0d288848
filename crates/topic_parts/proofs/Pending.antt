-- How many messages of a log are pending at a consumer, as the map of what is pending counts them.
use Rattle.std.proofs.Common.{◌≡◌, ℕ, ◌+◌, List, [], ◌∷◌, map, Some, None, Option, Bool, true, false, cond, refl, ap, ◌∙◌, sym, arith, get_or, true≢false}
use Rattle.std.specs.Prelude.{◌||◌, ◌==◌, is_some}
use Rattle.std.specs.List.{count_by, AllByRecursion}
use Rattle.std.specs.List.Sorted.{IsStrictlySortedBy}
use Rattle.std.specs.Option.{option_map_or}
use Rattle.std.specs.FinMap as map_of
use Rattle.std.specs.declared.cmp.Ordering.TheVariants.{Less}
use Rattle.std.proofs.lemmas.List.{get_or_default}
use Rattle.std.proofs.lemmas.List.Quantifiers.{position-Some}
use Rattle.std.proofs.lemmas.List.Sums.{sum_by-cons}
use Rattle.position_core.specs.declared.position.Position.{Position}
use Rattle.position_core.specs.declared.message.Entry.{Entry}
use Rattle.position_core.specs.declared.held.Held.{Held}
use Rattle.position_core.specs.Position.{position_cmp, same_position, positions_total, exact_positions}
use Rattle.position_core.specs.Flow.{flow_has_room}
use Rattle.position_core.specs.declared.flow.Flow.{Flow}
use Rattle.position_core.specs.declared.flow.Flow.TheVariants.{Credit}
use Rattle.delivery_machine.specs.Words.{is_held_by}
use Rattle.delivery_machine.specs.WellFormed.{has_message}
use Rattle.delivery_machine.specs.State.{Member}
use Rattle.delivery_machine.proofs.Messages.{either_way, has_there, message_there, position_itself}
use Rattle.delivery_machine.proofs.Tended.{position_is}
use Rattle.delivery_machine.proofs.Rising.{keys_above, below_itself}
use Rattle.pending_core.proofs.Matching.{count-insert, no_more}
use Rattle.log_pieces.specs.Pieces.{index_of, stands_at}
use Rattle.topic_subscriptions.specs.Placed.{IsPlacedIn, IsRising, Placed}
use Rattle.topic_parts.specs.Parts.{IsSeenIn}

abbrev pub Holding : Type 0
Holding = map_of.FinMap position_cmp Held

-- what is pending is of the log
abbrev pub AreOfLog : List Entry → Holding → Type 0
AreOfLog log m = (q : Position) → map_of.contains_key m q ≡ true → has_message log q ≡ true

-- how many messages of the log are pending so that the test passes
abbrev pub counted : (Held → Bool) → Holding → List Entry → ℕ
counted f m log = count_by (λ e. option_map_or f (map_of.get m e.position) false) log

key_is : (m : Holding) (q : Position) (h : Held) → map_of.get m q ≡ Some h → map_of.contains_key m q ≡ true
key_is m q h is = ap is_some is

nothing_pending : (m : Holding) → AreOfLog [] m → m ≡ map_of.empty
nothing_pending m are = map_of.same_map positions_total exact_positions m map_of.empty (λ q. by q (map_of.get m q) refl ∙ sym (map_of.get-empty position_cmp q))
  where
    by : (q : Position) (o : Option Held) → map_of.get m q ≡ o → map_of.get m q ≡ None
    by q None is = is
    by q (Some h) is = absurd (true≢false (sym (are q (key_is m q h is))))

-- the first position is of no later message
apart : (e : Entry) (log : List Entry) → AllByRecursion (λ (q : Position). position_cmp e.position q ≡ Less) (map (λ (x : Entry). x.position) log) → has_message log e.position ≡ false
apart e log above = by (has_message log e.position) refl
  where
    by : (b : Bool) → has_message log e.position ≡ b → has_message log e.position ≡ false
    by false is = is
    by true is =
        let at = message_there log e.position is in
        absurd (below_itself positions_total e.position (ap (position_cmp e.position) (sym at.2) ∙ keys_above position_cmp (λ (x : Entry). x.position) e.position log at.0 above at.1))

-- a map with the same at the messages of a log counts the same
counted_alike : (f : Held → Bool) (m rest : Holding) (log : List Entry) (p : Position) → has_message log p ≡ false → ((q : Position) → same_position q p ≡ false → map_of.get rest q ≡ map_of.get m q) → counted f rest log ≡ counted f m log
counted_alike f m rest [] p out same = refl
counted_alike f m rest (x ∷ log) p out same =
    sum_by-cons (λ (e : Entry). cond (option_map_or f (map_of.get rest e.position) false) 1 0) x log
    ∙ ap (λ o. cond (option_map_or f o false) 1 0 + counted f rest log) (same x.position (first (same_position x.position p) (has_message log p) out))
    ∙ ap (λ k. cond (option_map_or f (map_of.get m x.position) false) 1 0 + k) (counted_alike f m rest log p (second (same_position x.position p) (has_message log p) out) same)
    ∙ sym (sum_by-cons (λ (e : Entry). cond (option_map_or f (map_of.get m e.position) false) 1 0) x log)
  where
    first : (a b : Bool) → (a || b) ≡ false → a ≡ false
    first true b e = e
    first false b e = refl

    second : (a b : Bool) → (a || b) ≡ false → b ≡ false
    second true b e = absurd (true≢false e)
    second false b e = e

pub counted_where : (f : Held → Bool) (log : List Entry) (m : Holding) → IsRising log → AreOfLog log m → counted f m log ≡ count_by f (map_of.values m)
unfolding IsStrictlySortedBy
counted_where f [] m rising are = sym (ap (λ (k : Holding). count_by f (map_of.values k)) (nothing_pending m are) ∙ no_more f)
counted_where f (e ∷ log) m rising are = sum_by-cons (λ (x : Entry). cond (option_map_or f (map_of.get m x.position) false) 1 0) e log ∙ by (λ k of_log. counted_where f log k rising.1 of_log) (map_of.get m e.position) refl
  where
    out : has_message log e.position ≡ false
    out = apart e log rising.0

    -- another key is of a later message
    later : (q : Position) → map_of.contains_key m q ≡ true → same_position e.position q ≡ false → has_message log q ≡ true
    later q key differ = sym (ap (λ b. b || has_message log q) differ) ∙ are q key

    by : ((k : Holding) → AreOfLog log k → counted f k log ≡ count_by f (map_of.values k)) → (o : Option Held) → map_of.get m e.position ≡ o → cond (option_map_or f (map_of.get m e.position) false) 1 0 + counted f m log ≡ count_by f (map_of.values m)
    by behind None is =
        ap (λ o. cond (option_map_or f o false) 1 0 + counted f m log) is
        ∙ (let rest = behind m all_later in omega (arith, rest))
      where
        all_later : AreOfLog log m
        all_later q key = by_test (same_position e.position q) refl
          where
            by_test : (b : Bool) → same_position e.position q ≡ b → has_message log q ≡ true
            by_test true same = absurd (true≢false (sym key ∙ ap (map_of.contains_key m) (sym (position_is e.position q same)) ∙ ap is_some is))
            by_test false differ = later q key differ
    by behind (Some h) is =
        ap (λ o. cond (option_map_or f o false) 1 0 + counted f m log) is
        ∙ (let here = behind rest rest_later in
        let alike = counted_alike f m rest log e.position out untouched in
        let more = ap (λ (k : Holding). count_by f (map_of.values k)) whole ∙ count-insert f rest e.position h gone in
        omega (arith, here, alike, more))
      where
        rest : Holding
        rest = map_of.remove m e.position

        got : (q : Position) → map_of.get rest q ≡ cond (same_position q e.position) None (map_of.get m q)
        got q = map_of.get-remove positions_total m e.position q

        untouched : (q : Position) → same_position q e.position ≡ false → map_of.get rest q ≡ map_of.get m q
        untouched q differ = got q ∙ ap (λ b. cond b None (map_of.get m q)) differ

        gone : map_of.get rest e.position ≡ None
        gone = got e.position ∙ ap (λ b. cond b None (map_of.get m e.position)) (position_itself e.position)

        whole : m ≡ map_of.insert rest e.position h
        whole = map_of.same_map positions_total exact_positions m (map_of.insert rest e.position h) (λ q. by_test q (same_position q e.position) refl)
          where
            by_test : (q : Position) (b : Bool) → same_position q e.position ≡ b → map_of.get m q ≡ map_of.get (map_of.insert rest e.position h) q
            by_test q true same =
                ap (map_of.get m) (position_is q e.position same) ∙ is
                ∙ sym (map_of.get-insert positions_total rest e.position h q ∙ ap (λ b. cond b (Some h) (map_of.get rest q)) same)
            by_test q false differ =
                sym (untouched q differ) ∙ sym (map_of.get-insert positions_total rest e.position h q ∙ ap (λ b. cond b (Some h) (map_of.get rest q)) differ)

        rest_later : AreOfLog log rest
        rest_later q key = by_test (same_position q e.position) refl
          where
            by_test : (b : Bool) → same_position q e.position ≡ b → has_message log q ≡ true
            by_test true same = absurd (true≢false (sym key ∙ ap is_some (got q ∙ ap (λ b. cond b None (map_of.get m q)) same)))
            by_test false differ = later q (sym (ap is_some (untouched q differ)) ∙ key) (either_way e.position q ∙ differ)

pub pending_counted : (n : ℕ) (log : List Entry) (m : Holding) → IsRising log → AreOfLog log m → count_by (λ e. is_held_by n (map_of.get m e.position)) log ≡ count_by (λ (h : Held). h.consumer == n) (map_of.values m)
pending_counted n log m rising are = counted_where (λ (h : Held). h.consumer == n) log m rising are

-- what has an index is of the log
pub indexed : (log : List Entry) (q : Position) (i : ℕ) → index_of q log ≡ Some i → has_message log q ≡ true
indexed [] q i is = cc
indexed (e ∷ log) q i is =
    let at = position-Some (stands_at q) (e ∷ log) i e is in
    has_there (e ∷ log) q (get_or (e ∷ log) i e, (i, at.0, get_or_default (e ∷ log) i (get_or (e ∷ log) i e) e at.0), position_is (get_or (e ∷ log) i e).position q at.1)

-- what a view needs
pub seen_of_placed : (log : List Entry) (ms : List Member) (p : Placed) → IsPlacedIn log ms p → IsSeenIn log ms p
seen_of_placed log ms p placed = record {
  live = placed.live;
  line = placed.line;
  pending = λ q key. (let live = placed.pending q key in indexed log q live.place live.there);
}

-- with credit it does not matter how many are
pub room_by_credit : (flow : Flow) (left : ℕ) → flow ≡ Credit left → (n k : ℕ) → flow_has_room flow n ≡ flow_has_room flow k
room_by_credit flow left is n k = ap (λ (f : Flow). flow_has_room f n) is ∙ sym (ap (λ (f : Flow). flow_has_room f k) is)
