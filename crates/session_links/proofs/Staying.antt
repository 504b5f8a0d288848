-- A consumer that joined is there until it leaves, which is done.
use Rattle.std.proofs.Common.{◌≡◌, ◌==◌, ℕ, arith, Bool, true, false, List, [], ◌∷◌, ◌++◌, Option, Some, None, Result, Ok, Err, IsOk, is_some, map, cond, if◌then◌else◌, refl, sym, ap, subst, ◌∙◌, inl, inr}
use Rattle.std.specs.Prelude.{MatchBool}
use Rattle.std.proofs.lemmas.Bool.Decides.{nat_tests}
use Rattle.std.specs.List.{find}
use Rattle.position_core.specs.declared.fault.Fault.{Fault}
use Rattle.position_core.specs.declared.fault.Fault.TheVariants.{NoMemory, NoSession}
use Rattle.position_core.specs.declared.flow.Flow.TheVariants.{Window}
use Rattle.position_core.specs.declared.kind.Kind.{Kind}
use Rattle.position_core.specs.declared.kind.Kind.TheVariants.{Exclusive}
use Rattle.position_core.specs.declared.ranges.HashRange.{HashRange}
use Rattle.delivery_machine.specs.State.{State, Member}
use Rattle.delivery_machine.specs.Words.{active_at, emptied, emptied_at, has_member, is_at, is_member}
use Rattle.delivery_machine.specs.Joining.{all_released, is_taken_over, taken_over, with_member}
use Rattle.delivery_machine.specs.Seeking.{sought}
use Rattle.delivery_machine.specs.Run.{Step}
use Rattle.delivery_machine.specs.declared.event.Event.{Event}
use Rattle.delivery_machine.specs.declared.event.Event.TheVariants.{Leave, Seek}
use Rattle.delivery_machine.specs.declared.event.Initial.{Initial}
use Rattle.delivery_machine.specs.declared.event.Initial.TheVariants.{Earliest}
use Rattle.delivery_machine.specs.declared.event.Target.{Target}
use Rattle.delivery_machine.specs.declared.reply.Reply.{Reply}
use Rattle.delivery_machine.specs.declared.reply.Reply.TheVariants.{Done, Refused, Subscribed}
use Rattle.session_links.specs.Creating.{Hears, MovesOn, consumer_by, is_done, joins}

number_stays : (name : List ℕ) (m : Member) → (emptied_at name m).number ≡ m.number
number_stays name m = by (is_at name m)
  where
    by : (b : Bool) → (if b then emptied m else m).number ≡ m.number
    by true = refl
    by false = refl

found_so : {A : Type 0} (a b : Bool) (x y : A) (xs ys : Option A) → a ≡ b → is_some xs ≡ is_some ys → is_some (cond a (Some x) xs) ≡ is_some (cond b (Some y) ys)
found_so a true x y xs ys is rest = subst (λ (c : Bool). is_some (cond c (Some x) xs) ≡ true) (sym is) refl
found_so a false x y xs ys is rest = subst (λ (c : Bool). is_some (cond c (Some x) xs) ≡ is_some ys) (sym is) rest

-- whoever is emptied is found still
found_still : (name : List ℕ) (consumer : ℕ) (ms : List Member) → is_some (find (is_member consumer) (map (emptied_at name) ms)) ≡ is_some (find (is_member consumer) ms)
found_still name consumer [] = refl
found_still name consumer (m ∷ ms) =
    found_so ((emptied_at name m).number == consumer) (m.number == consumer) (emptied_at name m) m _ _ (ap (λ n. n == consumer) (number_stays name m)) (found_still name consumer ms)

same_number : (n : ℕ) → (n == n) ≡ true
same_number n = grind (arith, nat_tests)

-- the last one is found
found_last : (m : Member) (ms : List Member) → is_some (find (is_member m.number) (ms ++ m ∷ [])) ≡ true
found_last m [] = subst (λ (b : Bool). is_some (cond b (Some m) None) ≡ true) (sym (same_number m.number)) refl
found_last m (x ∷ ms) = by (x.number == m.number) (found_last m ms)
  where
    by : (b : Bool) → is_some (find (is_member m.number) (ms ++ m ∷ [])) ≡ true → is_some (cond b (Some x) (find (is_member m.number) (ms ++ m ∷ []))) ≡ true
    by true rest = refl
    by false rest = rest

-- a takeover sends nobody away
taken_over_has : (name : List ℕ) (before : Option ℕ) (s : State) (consumer : ℕ) → has_member (taken_over name before s) consumer ≡ has_member s consumer
taken_over_has name before s consumer = by (is_taken_over name before s)
  where
    by : (b : Bool) → has_member (if b then all_released name s else s) consumer ≡ has_member s consumer
    by true = found_still name consumer s.members
    by false = refl

has_last : (s : State) (kind : Kind) (ranges : Option (List HashRange)) (initial : Initial) (m : Member) (before : Option ℕ) (t : State) → t ≡ taken_over m.subscription before (with_member s kind ranges initial m)
    → has_member t m.number ≡ true
has_last s kind ranges initial m before t is =
    ap (λ (u : State). has_member u m.number) is ∙ taken_over_has m.subscription before (with_member s kind ranges initial m) m.number ∙ found_last m s.members

some_same : (a b : ℕ) → Some a ≡ Some b → a ≡ b
some_same a b same = cc same

same_consumer : (a b : ℕ) → Subscribed a ≡ Subscribed b → a ≡ b
same_consumer a b same = cc same

-- the member by which a subscription is made
abbrev maker : State → List ℕ → Member
maker s name = record {
  number = s.next_consumer;
  subscription = name;
  level = 0;
  flow = Window 1;
  ack_timeout = 0;
  nack_delay = 0;
  max_redeliver = 0;
  dead_topic = record { tenant = name; namespace = name; topic = name };
  out = [];
}

-- who joined is there
joined_there : (s t : State) (name : List ℕ) (consumer : ℕ) → Step s (joins name) (Subscribed consumer) t → has_member t consumer ≡ true
joined_there s t name consumer step =
    subst (λ (n : ℕ). has_member t n ≡ true) (sym (same_consumer consumer s.next_consumer step.1.0)) (has_last s Exclusive None Earliest (maker s name) (active_at s name) t step.1.1)

heard_there : (s t : State) (name : List ℕ) (consumer : ℕ) → Hears s (joins name) (Subscribed consumer) t → has_member t consumer ≡ true
heard_there s t name consumer (inl step) = joined_there s t name consumer step
heard_there s t name consumer (inr step) = joined_there s t name consumer step

there_after : (s t : State) (name : List ℕ) (count consumer : ℕ) → t ≡ sought s name count → has_member s consumer ≡ true → has_member t consumer ≡ true
there_after s t name count consumer is there = ap (λ (u : State). has_member u consumer) is ∙ found_still name consumer s.members ∙ there

there_still : (s t : State) (consumer : ℕ) → t ≡ s → has_member s consumer ≡ true → has_member t consumer ≡ true
there_still s t consumer same there = ap (λ (u : State). has_member u consumer) same ∙ there

-- a seek sends nobody away
sought_there : (s t : State) (name : List ℕ) (target : Target) (reply : Reply) (consumer : ℕ) → Hears s (Seek name target) reply t → has_member s consumer ≡ true → has_member t consumer ≡ true
sought_there s t name target (Refused NoMemory) consumer (inl step) there = there_still s t consumer step.1 there
sought_there s t name target (Refused NoMemory) consumer (inr step) there = there_still s t consumer step.2 there
sought_there s t name target (Refused fault) consumer (inl step) there = there_still s t consumer step.1 there
sought_there s t name target (Refused fault) consumer (inr step) there = there_still s t consumer step.1 there
sought_there s t name target reply consumer (inl step) there = there_after s t name _ consumer step.1.1 there
sought_there s t name target reply consumer (inr step) there = there_after s t name _ consumer step.1.1 there

not_refused : {X : Type 0} (there : Bool) (fault : Fault) → there ≡ true → (if there then None else Some NoSession) ≡ Some fault → X
not_refused true fault is refused = absurd (cc refused)
not_refused false fault is refused = absurd (cc is)

-- who is there leaves
left_done : (s t : State) (reply : Reply) (consumer : ℕ) → Hears s (Leave consumer) reply t → has_member s consumer ≡ true → reply ≡ Done
left_done s t (Refused NoMemory) consumer (inl step) there = not_refused (has_member s consumer) NoMemory there step.0
left_done s t (Refused NoMemory) consumer (inr step) there = absurd (cc step.0)
left_done s t (Refused fault) consumer (inl step) there = not_refused (has_member s consumer) fault there step.0
left_done s t (Refused fault) consumer (inr step) there = not_refused (has_member s consumer) fault there step.0
left_done s t reply consumer (inl step) there = step.1.0
left_done s t reply consumer (inr step) there = step.1.0

module _ (Answered : State → Event → Result Reply Fault → State → Type 0)
    (hears : (s : State) (event : Event) (reply : Reply) (t : State) → Answered s event (Ok reply) t → Hears s event reply t)
    (refuses : (s : State) (event : Event) (fault : Fault) (t : State) → Answered s event (Err fault) t → t ≡ s) where
  -- the consumer by which a subscription is made is there then
  pub joined : (s t : State) (name : List ℕ) (answer : Result Reply Fault) (consumer : ℕ) → Answered s (joins name) answer t → consumer_by answer ≡ Some consumer → has_member t consumer ≡ true
  joined s t name (Ok (Subscribed number)) consumer asks is =
      subst (λ (n : ℕ). has_member t n ≡ true) (some_same number consumer is) (heard_there s t name number (hears s (joins name) (Subscribed number) t asks))
  joined s t name (Ok reply) consumer asks is = absurd (cc is)
  joined s t name (Err fault) consumer asks is = absurd (cc is)

  still_there : (s t : State) (name : List ℕ) (target : Target) (answer : Result Reply Fault) (consumer : ℕ) → Answered s (Seek name target) answer t → has_member s consumer ≡ true → has_member t consumer ≡ true
  still_there s t name target (Ok reply) consumer moves there = sought_there s t name target reply consumer (hears s (Seek name target) reply t moves) there
  still_there s t name target (Err fault) consumer moves there = there_still s t consumer (refuses s (Seek name target) fault t moves) there

  leaves_done : (s t : State) (answer : Result Reply Fault) (consumer : ℕ) → Answered s (Leave consumer) answer t → has_member s consumer ≡ true → IsOk answer → Answered s (Leave consumer) (Ok Done) t
  leaves_done s t (Ok reply) consumer leaves there ok =
      subst (λ (r : Reply). Answered s (Leave consumer) (Ok r) t) (left_done s t reply consumer (hears s (Leave consumer) reply t leaves) there) leaves
  leaves_done s t (Err fault) consumer leaves there ok = absurd (cc ok)

  -- the subscription goes on from its target, and its consumer has left
  pub moves_on : (seeks drops : Event) (s sought alone t : State) (answer left : Result Reply Fault) (consumer : ℕ) → has_member s consumer ≡ true
      → (name : List ℕ) × (target : Target) × (seeks ≡ Seek name target)
      → Answered s seeks answer sought → Answered sought (Leave consumer) left alone → (has_member sought consumer ≡ true → IsOk left)
      → MatchBool (is_done answer) (t ≡ alone) ((gone : Result Reply Fault) × Answered alone drops gone t) → MovesOn Answered seeks drops consumer s answer t
  moves_on seeks drops s sought alone t answer left consumer there is moves leaves ends stays =
      let here = still_there s sought is.0 is.1 answer consumer (subst (λ (e : Event). Answered s e answer sought) is.2 moves) there in
      record { sought = sought; alone = alone; moves = moves; leaves = leaves_done sought alone left consumer leaves here (ends here); stays = stays }

pub where_done : (X Y : Type 0) (done : Bool) → done ≡ true → X → MatchBool done X Y
where_done X Y true is here = here
where_done X Y false is here = absurd (cc is)

pub where_not_done : (X Y : Type 0) (done : Bool) → done ≡ false → Y → MatchBool done X Y
where_not_done X Y true is here = absurd (cc is)
where_not_done X Y false is here = here
