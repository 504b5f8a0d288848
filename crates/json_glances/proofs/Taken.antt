-- The object that a text is, under what was taken of its members.
use Rattle.std.proofs.Common.{◌≡◌, ℕ, List, [], ◌∷◌, length, Option, Some, None, option_map, option_and_then, refl, sym, ap, ◌∙◌}
use Rattle.json.specs.Token.{Token}
use Rattle.json.specs.Json.{parse_map, members, value}
use Rattle.serde_json.specs.Data.{Data, object, Members, no_members, put}
use Rattle.serde_json.specs.Read.{of_members, converted}
use Rattle.json_glances.specs.Glances.{taking_all}
use Rattle.json_glances.specs.Objects.{if_last, object_from}
use Rattle.json_glances.proofs.Turns.{members_taken}

abbrev pair_or : {A : Type 0} → A × List Token → Option (A × List Token) → A × List Token
pair_or p None = p
pair_or p (Some q) = q

module _ {A : Type 0} (f : Members → A) (g : Data → A) (same : (ms : Members) → g (object ms) ≡ f ms) where
  last : (x : Option (Members × List Token)) (a : A) → parse_map f x ≡ Some (a, []) → option_map g (option_and_then (λ p. if_last p.0 p.1) x) ≡ Some a
  last None a e = absurd (cc)
  last (Some (ms, [])) a e = ap Some (same ms ∙ ap (λ p. p.0) (ap (pair_or (f ms, [])) e))
  last (Some (ms, t ∷ r)) a e = let never = ap (λ p. p.1) (ap (pair_or (f ms, t ∷ r)) e) in absurd (cc)

  more : (x : Option (Members × List Token)) (a : A) (t : Token) (r : List Token) → parse_map f x ≡ Some (a, t ∷ r) → option_map g (option_and_then (λ p. if_last p.0 p.1) x) ≡ None
  more None a t r e = absurd (cc)
  more (Some (ms, [])) a t r e = let never = ap (λ p. p.1) (ap (pair_or (f ms, [])) e) in absurd (cc)
  more (Some (ms, s ∷ q)) a t r e = refl

  neither : (x : Option (Members × List Token)) → parse_map f x ≡ None → option_map g (option_and_then (λ p. if_last p.0 p.1) x) ≡ None
  neither None e = refl
  neither (Some q) e = absurd (cc)

  module _ (take : List ℕ → Data → A → A) (alike : (k : List ℕ) (d : Data) (ms : Members) → take k d (f ms) ≡ f (put k d ms)) (ts : List Token) where
    abbrev pub taken : Option (A × List Token)
    taken = converted (λ ms. taking_all take ms (f no_members)) (members (value 126) (length ts) ts)

    pub object_taken : (a : A) → taken ≡ Some (a, []) → option_map g (object_from ts) ≡ Some a
    object_taken a e = last (converted (λ ms. of_members ms no_members) (members (value 126) (length ts) ts)) a (sym (members_taken take f alike (members (value 126) (length ts) ts)) ∙ e)

    pub object_and_more : (a : A) (t : Token) (r : List Token) → taken ≡ Some (a, t ∷ r) → option_map g (object_from ts) ≡ None
    object_and_more a t r e = more (converted (λ ms. of_members ms no_members) (members (value 126) (length ts) ts)) a t r (sym (members_taken take f alike (members (value 126) (length ts) ts)) ∙ e)

    pub object_refused : taken ≡ None → option_map g (object_from ts) ≡ None
    object_refused e = neither (converted (λ ms. of_members ms no_members) (members (value 126) (length ts) ts)) (sym (members_taken take f alike (members (value 126) (length ts) ts)) ∙ e)
