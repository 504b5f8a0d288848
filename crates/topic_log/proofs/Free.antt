-- The free name that is found, in the machine's words, and what is kept for the next search.
use Rattle.std.proofs.Common.{◌≡◌, ℕ, ◌<◌, ◌≤◌, ◌^◌, List, [], ◌∷◌, ◌++◌, Bool, true, false, Some, None, Option, length, ap, sym, ◌∙◌, subst, inl, inr, arith, ◌-◌}
use Rattle.std.specs.Prelude.{◌||◌, not, Result, Ok, Err, OnOk, OnErr}
use Rattle.std.specs.List.{IsDistinct, filter, find, list_any}
use Rattle.std.specs.Option.{option_map_or}
use Rattle.std.proofs.lemmas.List.{length-take, length-append}
use Rattle.std.specs.Str.{bytes_eq}
use Rattle.std.proofs.lemmas.Bool.{cases_lt}
use Rattle.std.proofs.lemmas.List.Elements.{All-nil}
use Rattle.std.proofs.lemmas.Map.Keys.{IsStrictlyIncreasing-from_sorted}
use Rattle.std.specs.List.Sorted.{IsStrictlySortedBy}
use Rattle.position_core.specs.declared.message.Entry.{Entry}
use Rattle.delivery_machine.specs.State.{State, Author}
use Rattle.delivery_machine.specs.Trimming.{with_authors}
use Rattle.delivery_machine.specs.WellFormed.{AreAuthors}
use Rattle.delivery_machine.specs.Producing.{IsLeastFree, auto_name, is_used}
use Rattle.delivery_machine.proofs.Deciding.{or_second}
use Rattle.dedup_core.specs.Sequences.{AgreesWith}
use Rattle.dedup_core.proofs.Known.{has_if_known}
use Rattle.topic_log.specs.Names.{AreGaps, is_numbered, is_taken, is_written}
use Rattle.topic_log.specs.Written.{IsKept, Written, all_of, written_in}
use Rattle.log_pieces.specs.Pieces.{front}
use Rattle.entry_log.specs.Log.{Log, appended, popped}
use Rattle.topic_log.proofs.Writers.{numbered_as_written, still_written}
use Rattle.topic_log.proofs.Gaps.{no_gaps, gaps_still, gaps_left, least_gap, none_free}

pub no_authors : AreAuthors 0 []
unfolding IsDistinct IsStrictlySortedBy
no_authors = record { names = tt; indexes = record { rising = IsStrictlyIncreasing-from_sorted [] tt; below = All-nil (λ n. n < 0) } }

-- where the search is to begin anew
pub kept_afresh : (gone : ℕ) (authors : List Author) (log : List Entry) (durable : ℕ) (gaps : List ℕ) → durable ≤ length log → gone ≤ 2 ^ 62 → AreAuthors gone authors → gaps ≡ [] → IsKept gone authors log durable 0 gaps
kept_afresh gone authors log durable gaps within room are none = record {
  stored = within;
  room = room;
  remembered = are;
  names = subst (AreGaps (is_written (with_authors gone log authors)) 0) (sym none) (no_gaps (is_written (with_authors gone log authors)));
}

pub kept_pushed : (gone : ℕ) (authors : List Author) (log : List Entry) (durable first : ℕ) (gaps : List ℕ) (e : Entry) → IsKept gone authors log durable first gaps → IsKept gone authors (log ++ e ∷ []) durable first gaps
kept_pushed gone authors log durable first gaps e kept =
    let longer = length-append log (e ∷ []) in
    let within = kept.stored in
    record {
      stored = omega (arith, longer, within);
      room = kept.room;
      remembered = kept.remembered;
      names = gaps_still (is_written (with_authors gone log authors)) (is_written (with_authors gone (log ++ e ∷ []) authors)) first gaps (still_written gone log e authors kept.remembered) kept.names;
    }

-- whether the message was appended or not
pub kept_either : {T E : Type 0} (gone : ℕ) (authors : List Author) (q new : Log) (durable first : ℕ) (gaps : List ℕ) (e : Entry) (result : Result T E) → OnOk result (new ≡ appended e q) → OnErr result (new ≡ q) → IsKept gone authors q.log durable first gaps → IsKept gone authors new.log durable first gaps
kept_either gone authors q new durable first gaps e (Ok x) ok err kept = subst (λ (p : Log). IsKept gone authors p.log durable first gaps) (sym ok) (kept_pushed gone authors q.log durable first gaps e kept)
kept_either gone authors q new durable first gaps e (Err x) ok err kept = subst (λ (p : Log). IsKept gone authors p.log durable first gaps) (sym err) kept

pub kept_popped : (q : Log) (durable : ℕ) → durable < length q.log → durable ≤ length (popped q).log
kept_popped q durable more = by q.undo
  where
    by : (o : Option ℕ) → durable ≤ length (option_map_or (λ ledger. record q { log = front q.log; ledger = ledger; undo = None }) o q).log
    by None = omega arith
    by (Some ledger) = let all = length-take (length q.log - 1) q.log in omega (arith, all)

module _ (w : Written) (agrees : AgreesWith (all_of w) w.numbers) (are : AreAuthors w.gone w.authors) (first : ℕ) (gaps left : List ℕ) (at : AreGaps (is_written (all_of w)) first gaps) (is : left ≡ filter (λ g. not (is_numbered w.numbers g)) gaps) where
  taken : ℕ → Bool
  taken k = is_taken w.producers w.numbers k

  as_used : (s : State) (k : ℕ) → taken k ≡ is_used (written_in w s) (auto_name k)
  unfolding taken
  as_used s k = ap (λ b. list_any (λ p. bytes_eq p.name (auto_name k)) w.producers || b) (has_if_known (written_in w s) are w.numbers agrees (auto_name k))

  least : (s : State) (n : ℕ) → taken n ≡ false → ((k : ℕ) → k < n → taken k ≡ true) → IsLeastFree (written_in w s) n
  least s n free below = (sym (as_used s n) ∙ free, λ k low. sym (as_used s k) ∙ below k low)

  pub still_left : AreGaps (is_numbered w.numbers) first left
  still_left =
      subst (AreGaps (is_numbered w.numbers) first) (sym is)
      (gaps_left (is_numbered w.numbers) first gaps
      (gaps_still (is_written (all_of w)) (is_numbered w.numbers) first gaps (λ k e. numbered_as_written (all_of w) w.numbers agrees k ∙ e) at))

  writers : (k : ℕ) → is_numbered w.numbers k ≡ true → taken k ≡ true
  unfolding taken
  writers k e = or_second _ _ e

  pub least_of_gaps : (n : ℕ) → Some n ≡ find (λ g. not (is_taken w.producers w.numbers g)) left → (s : State) → IsLeastFree (written_in w s) n
  unfolding taken
  least_of_gaps n found s =
      let free = least_gap (is_numbered w.numbers) taken writers first left n still_left found in
      least s n free.0 free.1

  pub least_beyond : (n : ℕ) → None ≡ find (λ g. not (is_taken w.producers w.numbers g)) left → is_taken w.producers w.numbers n ≡ false → ((k : ℕ) → first ≤ k → k < n → is_taken w.producers w.numbers k ≡ true) → (s : State) → IsLeastFree (written_in w s) n
  unfolding taken
  least_beyond n none free beyond s = least s n free below
    where
      below : (k : ℕ) → k < n → taken k ≡ true
      below k low = elim (cases_lt k first) [
        | inl before ↦ none_free (is_numbered w.numbers) taken writers first left still_left none k before
        | inr from ↦ beyond k from low
      ]

  pub kept_on : (n durable : ℕ) (new : List ℕ) → durable ≤ length w.log.log → w.gone ≤ 2 ^ 62 → (AreGaps (is_numbered w.numbers) first left → AreGaps (is_numbered w.numbers) n new) → IsKept w.gone w.authors w.log.log durable n new
  kept_on n durable new within room more = record {
    stored = within;
    room = room;
    remembered = are;
    names = gaps_still (is_numbered w.numbers) (is_written (all_of w)) n new (λ k e. sym (numbered_as_written (all_of w) w.numbers agrees k) ∙ e) (more still_left);
  }
