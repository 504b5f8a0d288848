-- The deaths of a subscription: those that were done with and those that are left, now and in what was viewed or stored.
use Rattle.std.proofs.Common.{◌≡◌, ℕ, zero, suc, ◌<◌, ◌≤◌, List, [], ◌∷◌, ◌++◌, map, length, take, Some, Bool, true, false, cond, refl, ap, ◌∙◌, sym, subst, arith, append_assoc, length-append}
use Rattle.std.specs.Prelude.{nat_lt, max}
use Rattle.std.specs.List.{AllByRecursion, find, count_by}
use Rattle.std.proofs.lemmas.Bool.Decides.{nat_tests}
use Rattle.std.proofs.lemmas.List.{append-nil}
use Rattle.std.proofs.lemmas.List.Elements.{recursion_from_All}
use Rattle.std.proofs.lemmas.List.Sums.{sum_by-cons}
use mathlib.Core.List.{IsPrefix}
use Rattle.delivery_machine.specs.State.{State, Subscription, DeadLetter}
use Rattle.delivery_machine.specs.Words.{is_named}
use Rattle.delivery_machine.specs.Producing.{stored_to, storing_below}
use Rattle.delivery_machine.specs.Snapshot.{subscription_from, kept_of}
use Rattle.delivery_machine.specs.declared.event.Event.{Event}
use Rattle.delivery_machine.specs.declared.reply.Reply.{Reply}
use Rattle.topic_lives.specs.Deleting.{HasNoLetter}
use Rattle.dead_letters.specs.Worlds.{Topic, everything, gone_on, begun_again}
use Rattle.dead_letters.proofs.Fronts.{front_same, front_trans, front_pushed, front_before, front_taken, front_within, front_of_taken, taken_whole, all_front, all_append, all_weaker}
use Rattle.dead_letters.proofs.Tags.{AreKnown, known_kept, AreBelow, Rise, rise_pushed}
use Rattle.dead_letters.proofs.LettersAt.{Letters, letters_found, letters_in}
use Rattle.dead_letters.proofs.SourceSteps.{letters_at, IsCalm, Dies}
use Rattle.dead_letters.proofs.Topics.{there_in_all}
use Rattle.dead_letters.proofs.Outcomes.{IsDone}

abbrev pub dead_at : State → List ℕ → List DeadLetter
dead_at s n = (letters_at s n).0

abbrev pub safe_at : State → List ℕ → ℕ
safe_at s n = (letters_at s n).1

-- all deaths, and those of them that are done with or may be moved
abbrev pub deaths : List ℕ → State → List DeadLetter → List DeadLetter
deaths n s moved = moved ++ dead_at s n

abbrev pub safe_deaths : List ℕ → State → List DeadLetter → List DeadLetter
safe_deaths n s moved = moved ++ take (safe_at s n) (dead_at s n)

-- the deaths rise, below the topic's next ordinal, and the topic has had their messages
pub record Stands (n : List ℕ) (s : Topic) (moved : List DeadLetter) : Type 0 where
  pub rise : Rise (deaths n s.state moved)
  pub below : AreBelow s.state.next_ordinal (deaths n s.state moved)
  pub known : AreKnown (everything s) (deaths n s.state moved)

-- so it was when a snapshot was taken, in which all letters are safe
pub record WasKept (n : List ℕ) (past : Topic) (moved : List DeadLetter) : Type 0 where
  pub stands : Stands n past moved
  pub all_safe : safe_at past.state n ≡ length (dead_at past.state n)

-- since then there were more deaths, none of which is safe, and some were done with
pub record IsBehind (n : List ℕ) (past : Topic) (past_moved : List DeadLetter) (s : Topic) (moved : List DeadLetter) : Type 0 where
  pub known : List DeadLetter
  pub later : List DeadLetter
  pub letters : dead_at s.state n ≡ known ++ later
  pub same : moved ++ known ≡ deaths n past.state past_moved
  pub done : IsPrefix past_moved moved
  pub safe : safe_at s.state n ≤ length known
  pub above : AllByRecursion (λ d. past.state.next_ordinal ≤ d.ordinal) later
  pub log : IsPrefix (everything past) (everything s)
  pub ordinal : past.state.next_ordinal ≤ s.state.next_ordinal

-- ---- steps that leave the letters

module _ (n : List ℕ) where
  -- what stays where the deaths stay
  stands_still : (s : Topic) (moved : List DeadLetter) (t : Topic) (after : List DeadLetter) → deaths n t.state after ≡ deaths n s.state moved → s.state.next_ordinal ≤ t.state.next_ordinal → IsPrefix (everything s) (everything t) → Stands n s moved → Stands n t after
  stands_still s moved t after same next log stands = record {
    rise = subst Rise (sym same) stands.rise;
    below = subst (AreBelow t.state.next_ordinal) (sym same) (all_weaker (λ (d : DeadLetter). d.ordinal < s.state.next_ordinal) (λ d. d.ordinal < t.state.next_ordinal) (deaths n s.state moved) (λ d low. omega arith) stands.below);
    known = subst (AreKnown (everything t)) (sym same) (known_kept (everything s) (everything t) (deaths n s.state moved) log stands.known);
  }

  pub stands_calm : (s : Topic) (moved : List DeadLetter) (t : Topic) → IsCalm n s.state t.state → IsPrefix (everything s) (everything t) → Stands n s moved → Stands n t moved
  stands_calm s moved t calm log stands = stands_still s moved t moved (ap (λ (l : Letters). moved ++ l.0) calm.letters) calm.ordinal log stands

  pub behind_calm : (past : Topic) (pm : List DeadLetter) (s : Topic) (moved : List DeadLetter) (t : Topic) → IsCalm n s.state t.state → IsPrefix (everything s) (everything t) → IsBehind n past pm s moved → IsBehind n past pm t moved
  behind_calm past pm s moved t calm log behind = record {
    known = behind.known;
    later = behind.later;
    letters = ap (λ (l : Letters). l.0) calm.letters ∙ behind.letters;
    same = behind.same;
    done = behind.done;
    safe = subst (λ (k : ℕ). k ≤ length behind.known) (sym (ap (λ (l : Letters). l.1) calm.letters)) behind.safe;
    above = behind.above;
    log = front_trans (everything past) (everything s) (everything t) behind.log log;
    ordinal = let a = calm.ordinal in let b = behind.ordinal in omega arith;
  }

  -- ---- one dies

  pub stands_dies : (s : Topic) (moved : List DeadLetter) (t : Topic) → Dies n s.state t.state → IsPrefix (everything s) (everything t) → Stands n s moved → Stands n t moved
  stands_dies s moved t dies log stands =
      let letter = dies.letter in
      let more : deaths n t.state moved ≡ deaths n s.state moved ++ letter ∷ [] = ap (λ (l : Letters). moved ++ l.0) dies.letters ∙ sym (append_assoc moved (dead_at s.state n) (letter ∷ [])) in
      let under : AreBelow letter.ordinal (deaths n s.state moved) = subst (λ (k : ℕ). AreBelow k (deaths n s.state moved)) (sym dies.ordinal) stands.below in
      let next = dies.next in
      let own = dies.ordinal in
      let one : letter.ordinal < t.state.next_ordinal = omega arith in
      record {
        rise = subst Rise (sym more) (rise_pushed (deaths n s.state moved) letter under stands.rise);
        below = subst (AreBelow t.state.next_ordinal) (sym more)
            (all_append (λ (d : DeadLetter). d.ordinal < t.state.next_ordinal) (deaths n s.state moved) (letter ∷ [])
            (all_weaker (λ (d : DeadLetter). d.ordinal < s.state.next_ordinal) (λ d. d.ordinal < t.state.next_ordinal) (deaths n s.state moved) (λ d low. omega arith) stands.below) (one, tt));
        known = known_kept (everything s) (everything t) (deaths n t.state moved) log (subst (AreKnown (everything s)) (sym more) (all_append _ (deaths n s.state moved) (letter ∷ []) stands.known (there_in_all s letter.position dies.there, tt)));
      }

  pub behind_dies : (past : Topic) (pm : List DeadLetter) (s : Topic) (moved : List DeadLetter) (t : Topic) → Dies n s.state t.state → IsPrefix (everything s) (everything t) → IsBehind n past pm s moved → IsBehind n past pm t moved
  behind_dies past pm s moved t dies log behind =
      let next = dies.next in
      let own = dies.ordinal in
      let low = behind.ordinal in
      let one : past.state.next_ordinal ≤ dies.letter.ordinal = omega arith in
      record {
        known = behind.known;
        later = behind.later ++ dies.letter ∷ [];
        letters = ap (λ (l : Letters). l.0) dies.letters ∙ ap (λ (ds : List DeadLetter). ds ++ dies.letter ∷ []) behind.letters ∙ append_assoc behind.known behind.later (dies.letter ∷ []);
        same = behind.same;
        done = behind.done;
        safe = subst (λ (k : ℕ). k ≤ length behind.known) (sym (ap (λ (l : Letters). l.1) dies.letters)) behind.safe;
        above = all_append _ behind.later (dies.letter ∷ []) behind.above (one, tt);
        log = front_trans (everything past) (everything s) (everything t) behind.log log;
        ordinal = omega arith;
      }

  -- ---- the topic is told of what is stored

  abbrev pub counted : ℕ → List DeadLetter → ℕ
  counted ordinal dead = count_by (λ d. nat_lt d.ordinal ordinal) dead

  pub told_letters : (subs : List Subscription) (ordinal : ℕ) → letters_in (map (storing_below ordinal) subs) n ≡ ((letters_in subs n).0, max (letters_in subs n).1 (counted ordinal (letters_in subs n).0))
  told_letters [] ordinal = refl
  told_letters (sub ∷ subs) ordinal = by (is_named n sub) (told_letters subs ordinal)
    where
      by : (b : Bool) → letters_in (map (storing_below ordinal) subs) n ≡ ((letters_in subs n).0, max (letters_in subs n).1 (counted ordinal (letters_in subs n).0))
          → letters_found (cond b (Some (storing_below ordinal sub)) (find (is_named n) (map (storing_below ordinal) subs)))
          ≡ ((letters_found (cond b (Some sub) (find (is_named n) subs))).0, max (letters_found (cond b (Some sub) (find (is_named n) subs))).1 (counted ordinal (letters_found (cond b (Some sub) (find (is_named n) subs))).0))
      by true rest = refl
      by false rest = rest

  pub counted_most : (ordinal : ℕ) (known later : List DeadLetter) → AllByRecursion (λ (d : DeadLetter). ordinal ≤ d.ordinal) later → counted ordinal (known ++ later) ≤ length known
  counted_most ordinal [] [] above = omega arith
  counted_most ordinal [] (d ∷ later) above =
      let rest = counted_most ordinal [] later above.1 in
      let one = none d.ordinal ordinal above.0 in
      let more = sum_by-cons (λ (e : DeadLetter). cond {A = ℕ} (nat_lt e.ordinal ordinal) 1 0) d later in
      omega (arith, rest, one, more)
    where
      none : (a b : ℕ) → b ≤ a → cond {A = ℕ} (nat_lt a b) 1 0 ≡ 0
      none a b low = grind (arith, nat_tests)
  counted_most ordinal (d ∷ known) later above =
      let rest = counted_most ordinal known later above in
      let one = most (nat_lt d.ordinal ordinal) in
      let more = sum_by-cons (λ (e : DeadLetter). cond {A = ℕ} (nat_lt e.ordinal ordinal) 1 0) d (known ++ later) in
      omega (arith, rest, one, more)
    where
      most : (b : Bool) → cond {A = ℕ} b 1 0 ≤ 1
      most true = omega arith
      most false = omega arith

  told_at : (s t : State) (count ordinal : ℕ) → t ≡ stored_to s count ordinal → letters_at t n ≡ ((letters_at s n).0, max (letters_at s n).1 (counted ordinal (letters_at s n).0))
  told_at s t count ordinal is = ap (λ (u : State). letters_at u n) is ∙ told_letters s.subscriptions ordinal

  pub behind_told : (past : Topic) (pm : List DeadLetter) (s : Topic) (moved : List DeadLetter) (t : Topic) (count ordinal : ℕ) → t.state ≡ stored_to s.state count ordinal → IsPrefix (everything s) (everything t) → ordinal ≤ past.state.next_ordinal
      → IsBehind n past pm s moved → IsBehind n past pm t moved
  behind_told past pm s moved t count ordinal is log low behind =
      let told = told_at s.state t.state count ordinal is in
      let counts : counted ordinal (dead_at s.state n) ≤ length behind.known =
      subst (λ (ds : List DeadLetter). counted ordinal ds ≤ length behind.known) (sym behind.letters)
      (counted_most ordinal behind.known behind.later (all_weaker (λ (d : DeadLetter). past.state.next_ordinal ≤ d.ordinal) (λ d. ordinal ≤ d.ordinal) behind.later (λ d above. omega arith) behind.above)) in
      let was = behind.safe in
      let most : max (safe_at s.state n) (counted ordinal (dead_at s.state n)) ≤ length behind.known = omega arith in
      record {
        known = behind.known;
        later = behind.later;
        letters = ap (λ (l : Letters). l.0) told ∙ behind.letters;
        same = behind.same;
        done = behind.done;
        safe = subst (λ (k : ℕ). k ≤ length behind.known) (sym (ap (λ (l : Letters). l.1) told)) most;
        above = behind.above;
        log = front_trans (everything past) (everything s) (everything t) behind.log log;
        ordinal = let next = ap (λ (u : State). u.next_ordinal) is in let b = behind.ordinal in omega arith;
      }

  pub stands_told : (s : Topic) (moved : List DeadLetter) (t : Topic) (count ordinal : ℕ) → t.state ≡ stored_to s.state count ordinal → IsPrefix (everything s) (everything t) → Stands n s moved → Stands n t moved
  stands_told s moved t count ordinal is log stands =
      stands_still s moved t moved (ap (λ (l : Letters). moved ++ l.0) (told_at s.state t.state count ordinal is)) (let next = ap (λ (u : State). u.next_ordinal) is in omega arith) log stands

  -- more of the letters are safe
  pub safe_told : (s t : State) (moved : List DeadLetter) (count ordinal : ℕ) → t ≡ stored_to s count ordinal → IsPrefix (safe_deaths n s moved) (safe_deaths n t moved)
  safe_told s t moved count ordinal is =
      subst (λ (l : Letters). IsPrefix (safe_deaths n s moved) (moved ++ take l.1 l.0)) (sym (told_at s t count ordinal is))
      (front_before moved (take (safe_at s n) (dead_at s n)) (take (max (safe_at s n) (counted ordinal (dead_at s n))) (dead_at s n))
      (front_taken (safe_at s n) (max (safe_at s n) (counted ordinal (dead_at s n))) (dead_at s n) (omega arith)))

  -- ---- the first letter is done with

  pub stands_done : (s : Topic) (moved : List DeadLetter) (e : Event) (r : Reply) (t : Topic) → (done : IsDone n s.state e r t.state) → IsPrefix (everything s) (everything t) → Stands n s moved → Stands n t (moved ++ done.letter ∷ [])
  stands_done s moved e r t done log stands =
      stands_still s moved t (moved ++ done.letter ∷ [])
      (ap (λ (l : Letters). (moved ++ done.letter ∷ []) ++ l.0) done.after ∙ append_assoc moved (done.letter ∷ []) done.rest ∙ ap (λ (l : Letters). moved ++ l.0) (sym done.letters))
      (let next = done.next in omega arith) log stands

  pub safe_done : (s : Topic) (moved : List DeadLetter) (e : Event) (r : Reply) (t : Topic) → (done : IsDone n s.state e r t.state) → safe_deaths n t.state (moved ++ done.letter ∷ []) ≡ safe_deaths n s.state moved
  safe_done s moved e r t done =
      ap (λ (l : Letters). (moved ++ done.letter ∷ []) ++ take l.1 l.0) done.after ∙ append_assoc moved (done.letter ∷ []) (take done.count done.rest)
      ∙ ap (λ (l : Letters). moved ++ take l.1 l.0) (sym done.letters)

  pub behind_done : (past : Topic) (pm : List DeadLetter) (s : Topic) (moved : List DeadLetter) (e : Event) (r : Reply) (t : Topic) → (done : IsDone n s.state e r t.state) → IsPrefix (everything s) (everything t) → IsBehind n past pm s moved → IsBehind n past pm t (moved ++ done.letter ∷ [])
  behind_done past pm s moved e r t done log behind = by behind.known behind.letters behind.same behind.safe
    where
      by : (known : List DeadLetter) → dead_at s.state n ≡ known ++ behind.later → moved ++ known ≡ deaths n past.state pm → safe_at s.state n ≤ length known → IsBehind n past pm t (moved ++ done.letter ∷ [])
      by [] letters same safe = let some = ap (λ (l : Letters). l.1) done.letters in absurd (omega arith)
      by (d ∷ known) letters same safe =
          let heads : done.letter ∷ done.rest ≡ d ∷ (known ++ behind.later) = sym (ap (λ (l : Letters). l.0) done.letters) ∙ letters in
          let is : d ≡ done.letter = cc in
          let rest : done.rest ≡ known ++ behind.later = cc in
          let some = ap (λ (l : Letters). l.1) done.letters in
          let low : done.count ≤ length known = omega arith in
          record {
            known = known;
            later = behind.later;
            letters = ap (λ (l : Letters). l.0) done.after ∙ rest;
            same = append_assoc moved (done.letter ∷ []) known ∙ ap (λ (x : DeadLetter). moved ++ x ∷ known) (sym is) ∙ same;
            done = front_trans pm moved (moved ++ done.letter ∷ []) behind.done (front_pushed moved (done.letter ∷ []));
            safe = subst (λ (k : ℕ). k ≤ length known) (sym (ap (λ (l : Letters). l.1) done.after)) low;
            above = behind.above;
            log = front_trans (everything past) (everything s) (everything t) behind.log log;
            ordinal = let a = done.next in let b = behind.ordinal in omega arith;
          }

  -- ---- snapshots

  gone_letters : (subs : List Subscription) → letters_in (map subscription_from (map kept_of subs)) n ≡ ((letters_in subs n).0, length (letters_in subs n).0)
  gone_letters [] = refl
  gone_letters (sub ∷ subs) = by (is_named n sub) (gone_letters subs)
    where
      by : (b : Bool) → letters_in (map subscription_from (map kept_of subs)) n ≡ ((letters_in subs n).0, length (letters_in subs n).0)
          → letters_found (cond b (Some (subscription_from (kept_of sub))) (find (is_named n) (map subscription_from (map kept_of subs))))
          ≡ ((letters_found (cond b (Some sub) (find (is_named n) subs))).0, length (letters_found (cond b (Some sub) (find (is_named n) subs))).0)
      by true rest = refl
      by false rest = rest

  pub kept_gone : (s : Topic) (moved : List DeadLetter) → Stands n s moved → WasKept n (gone_on s) moved
  kept_gone s moved stands =
      let gone = gone_letters s.state.subscriptions in
      record {
        stands = stands_still s moved (gone_on s) moved (ap (λ (l : Letters). moved ++ l.0) gone) (omega arith) (front_same (everything s)) stands;
        all_safe = ap (λ (l : Letters). l.1) gone ∙ ap (λ (l : Letters). length l.0) (sym gone);
      }

  -- a snapshot of now: all letters that are safe are in it
  pub behind_viewed : (s : Topic) (moved : List DeadLetter) → safe_at s.state n ≤ length (dead_at s.state n) → IsBehind n (gone_on s) moved s moved
  behind_viewed s moved low = record {
    known = dead_at s.state n;
    later = [];
    letters = sym (append-nil (dead_at s.state n));
    same = ap (λ (l : Letters). moved ++ l.0) (sym (gone_letters s.state.subscriptions));
    done = front_same moved;
    safe = low;
    above = tt;
    log = front_same (everything s);
    ordinal = omega arith;
  }

  -- what is behind nothing
  pub behind_itself : (past : Topic) (pm : List DeadLetter) → WasKept n past pm → IsBehind n past pm past pm
  behind_itself past pm kept = record {
    known = dead_at past.state n;
    later = [];
    letters = sym (append-nil (dead_at past.state n));
    same = refl;
    done = front_same pm;
    safe = let all = kept.all_safe in omega arith;
    above = tt;
    log = front_same (everything past);
    ordinal = omega arith;
  }

  -- the safe deaths are among those of a snapshot
  pub safe_stored : (past : Topic) (pm : List DeadLetter) (s : Topic) (moved : List DeadLetter) → WasKept n past pm → IsBehind n past pm s moved → IsPrefix (safe_deaths n s.state moved) (safe_deaths n past.state pm)
  safe_stored past pm s moved kept behind =
      let all : take (safe_at past.state n) (dead_at past.state n) ≡ dead_at past.state n = ap (λ (k : ℕ). take k (dead_at past.state n)) kept.all_safe ∙ taken_whole (dead_at past.state n) in
      let within : IsPrefix (take (safe_at s.state n) (dead_at s.state n)) behind.known =
      subst (λ (ds : List DeadLetter). IsPrefix (take (safe_at s.state n) ds) behind.known) (sym behind.letters) (front_within (safe_at s.state n) behind.known behind.later behind.safe) in
      subst (λ (ds : List DeadLetter). IsPrefix (safe_deaths n s.state moved) (pm ++ ds)) (sym all)
      (subst (λ (ds : List DeadLetter). IsPrefix (safe_deaths n s.state moved) ds) behind.same (front_before moved _ behind.known within))

  -- so it goes on from the snapshot
  pub safe_gone : (s : Topic) (moved : List DeadLetter) → IsPrefix (safe_deaths n s.state moved) (safe_deaths n (gone_on s).state moved)
  safe_gone s moved =
      subst (λ (l : Letters). IsPrefix (safe_deaths n s.state moved) (moved ++ take l.1 l.0)) (sym (gone_letters s.state.subscriptions))
      (front_before moved (take (safe_at s.state n) (dead_at s.state n)) (take (length (dead_at s.state n)) (dead_at s.state n))
      (subst (λ (ds : List DeadLetter). IsPrefix (take (safe_at s.state n) (dead_at s.state n)) ds) (sym (taken_whole (dead_at s.state n))) (front_of_taken (safe_at s.state n) (dead_at s.state n))))

  -- ---- a deletion: no letter is left

  none_left : (subs : List Subscription) → AllByRecursion (λ (sub : Subscription). sub.dead ≡ []) subs → (letters_in subs n).0 ≡ []
  none_left [] none = refl
  none_left (sub ∷ subs) none = by (is_named n sub) (none_left subs none.1)
    where
      by : (b : Bool) → (letters_in subs n).0 ≡ [] → (letters_found (cond b (Some sub) (find (is_named n) subs))).0 ≡ []
      by true rest = none.0
      by false rest = rest

  no_letter : (s : State) → HasNoLetter s → dead_at s n ≡ []
  no_letter s none = none_left s.subscriptions (recursion_from_All _ s.subscriptions none)

  pub kept_again : (s : Topic) (moved : List DeadLetter) → HasNoLetter s.state → Stands n s moved → WasKept n (begun_again s) moved
  kept_again s moved none stands = record {
    stands = stands_still s moved (begun_again s) moved (ap (λ (ds : List DeadLetter). moved ++ ds) (sym (no_letter s.state none))) (omega arith) (front_pushed (everything s) []) stands;
    all_safe = refl;
  }

  -- all that is safe was done with before
  pub safe_again : (s : Topic) (moved : List DeadLetter) → HasNoLetter s.state → IsPrefix (safe_deaths n s.state moved) (safe_deaths n (begun_again s).state moved)
  safe_again s moved none = subst (λ (ds : List DeadLetter). IsPrefix (moved ++ take (safe_at s.state n) ds) (moved ++ [])) (sym (no_letter s.state none)) (by (safe_at s.state n))
    where
      by : (k : ℕ) → IsPrefix (moved ++ take k []) (moved ++ [])
      by zero = front_same (moved ++ [])
      by (suc k) = front_same (moved ++ [])

  pub safe_known : (s : Topic) (moved : List DeadLetter) → Stands n s moved → AreKnown (everything s) (safe_deaths n s.state moved)
  safe_known s moved stands =
      let front = front_before moved (take (safe_at s.state n) (dead_at s.state n)) (dead_at s.state n) (front_of_taken (safe_at s.state n) (dead_at s.state n)) in
      all_front _ (safe_deaths n s.state moved) front.0 (subst (AreKnown (everything s)) (sym front.1) stands.known)

  -- no more are safe than there are
  pub safe_most : (past : Topic) (pm : List DeadLetter) (s : Topic) (moved : List DeadLetter) → IsBehind n past pm s moved → safe_at s.state n ≤ length (dead_at s.state n)
  safe_most past pm s moved behind =
      let e = ap length behind.letters ∙ length-append behind.known behind.later in
      let low = behind.safe in
      omega arith
