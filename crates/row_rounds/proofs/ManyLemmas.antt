-- One topic's round after another's.
use Rattle.std.proofs.Common.{ℕ, suc, ◌≡◌, ◌≢◌, ◌+◌, ◌<◌, ◌≤◌, ◌∙◌, Bool, true, false, ap, sym, subst, List, ◌∷◌, [], ◌++◌, map, length, take, All, arith}
use Rattle.std.specs.Prelude.{MatchBool}
use Rattle.std.specs.List.{AllByRecursion}
use Rattle.std.proofs.Math.ListN.{get_or}
use Rattle.std.proofs.lemmas.List.{get_or-take, take_more, length-take}
use Rattle.std.proofs.lemmas.List.Elements.{All-push, All-from_get_or, All-contains, Contains-push, Contains-get_or, Contains-append_left}
use Rattle.std.proofs.lemmas.List.Sorted.{IsPermutation-trans}
use Rattle.sqlite.specs.Tree.{Trees}
use Rattle.position_core.specs.TopicName.{topic_text}
use Rattle.delivery_machine.specs.Places.{KeptTopic}
use Rattle.row_forms.specs.Forms.{TopicRows, no_rows}
use Rattle.row_forms.specs.Standing.{Has, Stands, Same, KeepsOthers}
use Rattle.row_rounds.specs.declared.saving.Write.{Write}
use Rattle.row_rounds.specs.Rounds.{Via, Changes, Empties, name_of, AreApart, Fits, WritesOne, StandAll, Rounds}

same_then : (name : List ℕ) (a b c : Trees) → Same name a b → Same name b c → Same name a c
same_then name a b c p q = record {
  topics = IsPermutation-trans _ _ _ p.topics q.topics;
  entries = IsPermutation-trans _ _ _ p.entries q.entries;
  subs = IsPermutation-trans _ _ _ p.subs q.subs;
  acks = IsPermutation-trans _ _ _ p.acks q.acks;
  deads = IsPermutation-trans _ _ _ p.deads q.deads;
  counts = IsPermutation-trans _ _ _ p.counts q.counts;
  authors = IsPermutation-trans _ _ _ p.authors q.authors;
  retentions = IsPermutation-trans _ _ _ p.retentions q.retentions;
}

has_still : (name : List ℕ) (rows : TopicRows) (a b : Trees) → Same name a b → Has name rows a → Has name rows b
has_still name rows a b same h = record {
  topics = IsPermutation-trans _ _ _ h.topics same.topics;
  entries = IsPermutation-trans _ _ _ h.entries same.entries;
  subs = IsPermutation-trans _ _ _ h.subs same.subs;
  acks = IsPermutation-trans _ _ _ h.acks same.acks;
  deads = IsPermutation-trans _ _ _ h.deads same.deads;
  counts = IsPermutation-trans _ _ _ h.counts same.counts;
  authors = IsPermutation-trans _ _ _ h.authors same.authors;
  retentions = IsPermutation-trans _ _ _ h.retentions same.retentions;
}

stands_still : (kept : KeptTopic) (a b : Trees) → Same (topic_text kept.name) a b → Stands kept a → Stands kept b
stands_still kept a b same s = (s.0, s.1, has_still (topic_text kept.name) s.0 a b same s.2)

fits_still : (w : Write) (a b : Trees) → Same (name_of w) a b → Fits a w → Fits b w
fits_still w a b same f = record { olds = f.olds; news = f.news; are = f.are; leads = f.leads; stood = go w.whole f.stood }
  where
    go : (whole : Bool) → MatchBool whole (f.olds ≡ no_rows) (Has (name_of w) f.olds a) → MatchBool whole (f.olds ≡ no_rows) (Has (name_of w) f.olds b)
    go true is = is
    go false h = has_still (name_of w) f.olds a b same h

-- ---- one topic

then_kept : (name : List ℕ) (a b c : Trees) → KeepsOthers (name ∷ []) a b → KeepsOthers (name ∷ []) b c → KeepsOthers (name ∷ []) a c
then_kept name a b c p q topic but = same_then topic a b c (p topic but) (q topic but)

pub writes_whole : (w : Write) → w.whole ≡ true → (x z : Trees) → Via (Empties (name_of w)) (Changes w.snapshot w.change) x z → WritesOne w x z
writes_whole w whole x z parts f =
    let mid = parts.0 in
    let none : f.olds ≡ no_rows = subst (λ b. MatchBool b (f.olds ≡ no_rows) (Has (name_of w) f.olds x)) whole f.stood in
    let r = parts.2 f.olds f.news (subst (λ o. Has (name_of w) o mid) (sym none) parts.1.0) f.leads in
    ((f.news, f.are, r.0), then_kept (name_of w) x mid z parts.1.1 r.1)

pub writes_part : (w : Write) → w.whole ≡ false → (x z : Trees) → Changes w.snapshot w.change x z → WritesOne w x z
writes_part w part x z changes f =
    let had : Has (name_of w) f.olds x = subst (λ b. MatchBool b (f.olds ≡ no_rows) (Has (name_of w) f.olds x)) part f.stood in
    let r = changes f.olds f.news had f.leads in
    ((f.news, f.are, r.0), r.1)

-- ---- many

-- what holds of the first and of one more
split_last : (P : Write → Type 0) (front : List Write) (last : Write) → All P (front ++ last ∷ []) → All P front × P last
split_last P front last all = (
  All-from_get_or P front last (λ k h. All-contains P (front ++ last ∷ []) (get_or front k last) all (Contains-append_left front (last ∷ []) (get_or front k last) (Contains-get_or front k last h))),
  All-contains P (front ++ last ∷ []) last all (Contains-push front last),
)

split_names : (P : List ℕ → Type 0) (front : List Write) (last : Write) → AllByRecursion P (map name_of (front ++ last ∷ [])) → AllByRecursion P (map name_of front) × P (name_of last)
split_names P [] last all = (tt, all.0)
split_names P (w ∷ front) last all = let more = split_names P front last all.1 in ((all.0, more.0), more.1)

of_names : (P : List ℕ → Type 0) (ws : List Write) (d : Write) → ((k : ℕ) → k < length ws → P (name_of (get_or ws k d))) → AllByRecursion P (map name_of ws)
of_names P [] d h = tt
of_names P (w ∷ ws) d h = (h 0 (omega arith), of_names P ws d (λ k low. h (suc k) (omega (arith, low))))

pub rounds_more : (writes : List Write) (i : ℕ) (w : Write) → AreApart writes → i < length writes → w ≡ get_or writes i w → (x y z : Trees) → Rounds (take i writes) x y → WritesOne w y z → Rounds (take (i + 1) writes) x z
rounds_more writes i w distinct low is x y z p q first =
    let front = take i writes in
    let parts : take (i + 1) writes ≡ front ++ w ∷ [] = take_more writes i w low ∙ ap (λ v. front ++ v ∷ []) (sym is) in
    let name = name_of w in
    let short : length front ≤ i = omega (arith, length-take i writes) in
    let kept = split_last (Fits x) front w (rw parts at first) in
    let apart : (k : ℕ) → k < length front → name_of (get_or front k w) ≢ name = λ k h same. distinct k i w (omega arith) low (ap name_of (sym (get_or-take i writes k w (omega arith))) ∙ same ∙ ap name_of is) in
    let before : StandAll front x y = p kept.0 in
    let untouched : Same name x y = before.others name (of_names (λ n. name ≢ n) front w (λ k h e. apart k h (sym e))) in
    let here = q (fits_still w x y untouched kept.1) in
    let P = λ (v : Write). Stands v.snapshot z in
    let others : All P front = All-from_get_or P front w (λ k h.
    let v = get_or front k w in stands_still v.snapshot y z (here.1 (name_of v) (apart k h, tt)) (before.rows k w h)) in
    record {
      rows = rw parts (All-push P front w others here.0);
      others = λ other but.
          let two = split_names (λ n. other ≢ n) front w (subst (λ ws. AllByRecursion (λ n. other ≢ n) (map name_of ws)) parts but) in
          same_then other x y z (before.others other two.0) (here.1 other (two.1, tt));
    }
