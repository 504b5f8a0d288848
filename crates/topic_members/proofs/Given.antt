-- A message that is given is taken back, or paid for.
use Rattle.std.proofs.Common.{◌≡◌, ℕ, ◌-◌, List, [], ◌∷◌, ◌++◌, Bool, true, false, cond, length, take, refl, ap, ◌∙◌, arith}
use Rattle.std.proofs.Math.ListN.{length-append}
use Rattle.std.proofs.Math.Seq.{take-append_seam}
use Rattle.delivery_machine.specs.State.{Member}
use Rattle.delivery_machine.specs.Words.{changed, is_member}
use Rattle.delivery_machine.specs.Delivering.{given}
use Rattle.delivery_machine.specs.declared.delivery.Delivery.{Delivery}
use Rattle.topic_members.specs.Members.{pushed, shortened, spending}

module _ (q : Member → Bool) where
  -- where the first change keeps what is looked for
  pub changed_twice : (f g : Member → Member) → ((m : Member) → q (f m) ≡ q m) → (ms : List Member) → changed q g (changed q f ms) ≡ changed q (λ m. g (f m)) ms
  changed_twice f g keeps [] = refl
  changed_twice f g keeps (m ∷ ms) = by (q m) refl (changed_twice f g keeps ms)
    where
      by : (b : Bool) → q m ≡ b → changed q g (changed q f ms) ≡ changed q (λ x. g (f x)) ms → changed q g (cond b (f m ∷ ms) (m ∷ changed q f ms)) ≡ cond b (g (f m) ∷ ms) (m ∷ changed q (λ x. g (f x)) ms)
      by true is rest = ap (λ b. cond b (g (f m) ∷ ms) (f m ∷ changed q g ms)) (keeps m ∙ is)
      by false is rest = ap (λ b. cond b (g m ∷ changed q f ms) (m ∷ changed q g (changed q f ms))) is ∙ ap (λ xs. m ∷ xs) rest

  pub changed_to_itself : (f : Member → Member) → ((m : Member) → f m ≡ m) → (ms : List Member) → changed q f ms ≡ ms
  changed_to_itself f same [] = refl
  changed_to_itself f same (m ∷ ms) = by (q m) (changed_to_itself f same ms)
    where
      by : (b : Bool) → changed q f ms ≡ ms → cond b (f m ∷ ms) (m ∷ changed q f ms) ≡ m ∷ ms
      by true rest = ap (λ x. x ∷ ms) (same m)
      by false rest = ap (λ xs. m ∷ xs) rest

without_it : (d : Delivery) (out : List Delivery) → take (length (out ++ d ∷ []) - 1) (out ++ d ∷ []) ≡ out
without_it d out =
    let whole = length-append out (d ∷ []) in
    let less : length (out ++ d ∷ []) - 1 ≡ length out = omega (arith, whole) in
    ap (λ (n : ℕ). take n (out ++ d ∷ [])) less ∙ take-append_seam out (d ∷ [])

pub given_back : (number : ℕ) (d : Delivery) (ms : List Member) → changed (is_member number) shortened (changed (is_member number) (pushed d) ms) ≡ ms
given_back number d ms =
    changed_twice (is_member number) (pushed d) shortened (λ _. refl) ms
    ∙ changed_to_itself (is_member number) (λ m. shortened (pushed d m)) (λ m. ap (λ out. record m { out = out }) (without_it d m.out)) ms

pub given_paid : (number : ℕ) (d : Delivery) (ms : List Member) → changed (is_member number) spending (changed (is_member number) (pushed d) ms) ≡ changed (is_member number) (given d) ms
given_paid number d ms = changed_twice (is_member number) (pushed d) spending (λ _. refl) ms
