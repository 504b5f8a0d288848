-- A list of stores leaves of each topic what was stored last of it.
use Rattle.std.proofs.Common.{◌≡◌, ◌≢◌, ◌++◌, ℕ, zero, suc, Bool, true, false, List, [], ◌∷◌, map, Option, None, Some, inl, inr, refl, sym, subst, arith}
use Rattle.std.specs.Prelude.{All, MatchOption, cond, find}
use Rattle.std.specs.List.{AllByRecursion}
use Rattle.std.specs.Str.{bytes_eq}
use Rattle.std.proofs.lemmas.Slice.Eq.{bytes_eq-Decides}
use Rattle.std.proofs.lemmas.List.Sorted.{IsPermutation-refl, IsPermutation-trans}
use Rattle.position_core.specs.TopicName.{topic_text}
use Rattle.sqlite.specs.Tree.{Trees}
use Rattle.delivery_machine.specs.Places.{KeptTopic}
use Rattle.row_forms.specs.Standing.{Same, Stands}
use Rattle.row_store.specs.Keeping.{StoresAll}
use Rattle.row_store.specs.Lives.{AllDone, CrashesCompose, IsStoredLast, StandsLast, last_stored, later_of, stored_by}
use Rattle.row_store.proofs.Standing.{same_stands}

same_here : (text : List ℕ) (db : Trees) → Same text db db
same_here text db = record {
  topics = IsPermutation-refl _;
  entries = IsPermutation-refl _;
  subs = IsPermutation-refl _;
  acks = IsPermutation-refl _;
  deads = IsPermutation-refl _;
  counts = IsPermutation-refl _;
  authors = IsPermutation-refl _;
  retentions = IsPermutation-refl _;
}

same_on : (text : List ℕ) (old mid new : Trees) → Same text old mid → Same text mid new → Same text old new
same_on text old mid new first second = record {
  topics = IsPermutation-trans _ _ _ first.topics second.topics;
  entries = IsPermutation-trans _ _ _ first.entries second.entries;
  subs = IsPermutation-trans _ _ _ first.subs second.subs;
  acks = IsPermutation-trans _ _ _ first.acks second.acks;
  deads = IsPermutation-trans _ _ _ first.deads second.deads;
  counts = IsPermutation-trans _ _ _ first.counts second.counts;
  authors = IsPermutation-trans _ _ _ first.authors second.authors;
  retentions = IsPermutation-trans _ _ _ first.retentions second.retentions;
}

abbrev is_of : List ℕ → KeptTopic → Bool
is_of text kept = bytes_eq (topic_text kept.name) text

abbrev names : List KeptTopic → List (List ℕ)
names kepts = map (λ (kept : KeptTopic). topic_text kept.name) kepts

-- the one of a topic that is stored, or that none is
found : (text : List ℕ) (kepts : List KeptTopic) (P : KeptTopic → Type 0) → All P kepts
    → MatchOption (find (is_of text) kepts) (AllByRecursion (λ name. text ≢ name) (names kepts)) (λ kept. (topic_text kept.name ≡ text) × P kept)
found text [] P all = tt
found text (k ∷ kepts) P all = by (found text kepts P (λ n d less. all (suc n) d (omega (arith, less)))) (is_of text k) refl
  where
    more : (o : Option KeptTopic) → text ≢ topic_text k.name → MatchOption o (AllByRecursion (λ name. text ≢ name) (names kepts)) (λ kept. (topic_text kept.name ≡ text) × P kept)
        → MatchOption o (AllByRecursion (λ name. text ≢ name) (names (k ∷ kepts))) (λ kept. (topic_text kept.name ≡ text) × P kept)
    more None other none = (other, none)
    more (Some kept) other at = at

    by : MatchOption (find (is_of text) kepts) (AllByRecursion (λ name. text ≢ name) (names kepts)) (λ kept. (topic_text kept.name ≡ text) × P kept)
        → (b : Bool) → is_of text k ≡ b → MatchOption (cond b (Some k) (find (is_of text) kepts)) (AllByRecursion (λ name. text ≢ name) (names (k ∷ kepts))) (λ kept. (topic_text kept.name ≡ text) × P kept)
    by rest true is = ((bytes_eq-Decides (topic_text k.name) text).0 is, all zero k (omega arith))
    by rest false is =
        let other : text ≢ topic_text k.name = λ e. absurd (cc (is, (bytes_eq-Decides (topic_text k.name) text).1 (sym e))) in
        more (find (is_of text) kepts) other rest

-- one store
stored_after : (kepts : List KeptTopic) (old new : Trees) → StoresAll kepts old new → (text : List ℕ) → IsStoredLast text (stored_by text kepts) old new
stored_after kepts old new all text = by (find (is_of text) kepts) (found text kepts (λ kept. Stands kept new) all.each)
  where
    by : (o : Option KeptTopic) → MatchOption o (AllByRecursion (λ name. text ≢ name) (names kepts)) (λ kept. (topic_text kept.name ≡ text) × Stands kept new) → IsStoredLast text o old new
    by None none = all.others text none
    by (Some kept) at = at

-- and others after it
stored_later : (text : List ℕ) (last first : Option KeptTopic) (old mid new : Trees) → IsStoredLast text first old mid → IsStoredLast text last mid new → IsStoredLast text (later_of last first) old new
stored_later text None None old mid new at same = same_on text old mid new at same
stored_later text None (Some kept) old mid new at same = (at.0, same_stands kept mid new (subst (λ t. Same t mid new) (sym at.0) same) at.1)
stored_later text (Some kept) first old mid new at stands = stands

stands_last : (stores : List (List KeptTopic)) (old new : Trees) → AllDone stores old new → StandsLast stores old new
stands_last [] old new same text = subst (Same text old) (sym same) (same_here text old)
stands_last (kepts ∷ stores) old new all text =
    stored_later text (last_stored text stores) (stored_by text kepts) old all.0 new (stored_after kepts old all.0 all.1 text) (stands_last stores all.0 new all.2 text)

one_more : (stores : List (List KeptTopic)) (kepts : List KeptTopic) (old now new : Trees) → AllDone stores old now → StoresAll kepts now new → AllDone (stores ++ kepts ∷ []) old new
one_more [] kepts old now new same does = (new, subst (λ db. StoresAll kepts db new) same does, refl)
one_more (first ∷ stores) kepts old now new all last = (all.0, all.1, one_more stores kepts all.0 now new all.2 last)

pub crashes_compose : CrashesCompose
crashes_compose stores under_way old now left all (inl same) = inl (stands_last stores old left (subst (AllDone stores old) (sym same) all))
crashes_compose stores under_way old now left all (inr last) = inr (stands_last (stores ++ under_way ∷ []) old left (one_more stores under_way old now left all last))
