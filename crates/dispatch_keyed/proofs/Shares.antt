-- Whose hashes change as a consumer joins or leaves.
use Rattle.std.proofs.Common.{◌≡◌, ℕ, ◌+◌, ◌<◌, ◌≤◌, Bool, true, false, cond, List, [], ◌∷◌, ◌⊎◌, length, Option, Some, None, inl, inr, refl, sym, ap, ◌∙◌, subst, arith}
use Rattle.std.specs.Prelude.{◌&&◌, ◌==◌, nat_le, nat_lt}
use Rattle.std.specs.List.{find}
use Rattle.std.specs.Option.{option_map}
use Rattle.std.proofs.lemmas.Bool.{cases_lt, lt-leb, le-ltb, and_parts, eqb-true}
use Rattle.std.proofs.lemmas.Option.{same_Some, none-some}
use Rattle.position_core.specs.declared.block.Block.{Block}
use Rattle.delivery_machine.specs.Shares.{has_hash, owner_among, half, lower_half, upper_half, halving, most_hashes, shared_out, all_hashes, is_share_of, with_lower, with_upper, given_back, IsRow, SplitAllHashes}
use Rattle.dispatch_keyed.specs.Resharing.{IsOutside}
use Rattle.dispatch_keyed.proofs.Blocks.{has, and_false, row_end}

-- ---- one share and the others

abbrev IsIn : ℕ → Block → Type 0
IsIn h b = (b.from ≤ h) × (h < b.from + b.size)

in_or_not : (h : ℕ) (b : Block) → IsIn h b ⊎ (IsIn h b → ⊥)
in_or_not h b = elim (cases_lt h b.from) [
  | inl before ↦ inr (λ at. omega (arith, before, at.0))
  | inr from ↦ elim (cases_lt h (b.from + b.size)) [
    | inl below ↦ inl (from, below)
    | inr past ↦ inr (λ at. omega (arith, past, at.1))
  ]
]

has_not : (h : ℕ) (b : Block) → (IsIn h b → ⊥) → has_hash h b ≡ false
has_not h b away = elim (cases_lt h b.from) [
  | inl before ↦ ap (λ (t : Bool). t && nat_lt h (b.from + b.size)) (lt-leb b.from h before)
  | inr from ↦ elim (cases_lt h (b.from + b.size)) [
    | inl below ↦ absurd (away (from, below))
    | inr past ↦ ap (λ (t : Bool). nat_le b.from h && t) (le-ltb h (b.from + b.size) past) ∙ and_false (nat_le b.from h)
  ]
]

module _ (h : ℕ) (b : Block) (bs : List Block) where
  owner_here : IsIn h b → owner_among (b ∷ bs) h ≡ Some b.consumer
  owner_here at = ap (λ (t : Bool). option_map (λ (x : Block). x.consumer) (cond t (Some b) (find (has_hash h) bs))) (has h b at.0 at.1)

  owner_behind : (IsIn h b → ⊥) → owner_among (b ∷ bs) h ≡ owner_among bs h
  owner_behind away = ap (λ (t : Bool). option_map (λ (x : Block). x.consumer) (cond t (Some b) (find (has_hash h) bs))) (has_not h b away)

-- where both begin with a share of one consumer and the same hashes, as far as the hash is concerned
same_behind : (h : ℕ) (a : Block) (bs cs : List Block) → owner_among bs h ≡ owner_among cs h → owner_among (a ∷ bs) h ≡ owner_among (a ∷ cs) h
same_behind h a bs cs same = elim (in_or_not h a) [
  | inl at ↦ owner_here h a bs at ∙ sym (owner_here h a cs at)
  | inr away ↦ owner_behind h a bs away ∙ same ∙ sym (owner_behind h a cs away)
]

-- ---- joining

abbrev IsTakenOrSame : ℕ → List Block → List Block → ℕ → Type 0
IsTakenOrSame consumer old new h = (owner_among new h ≡ Some consumer) ⊎ (owner_among new h ≡ owner_among old h)

halved_here : (consumer : ℕ) (b : Block) (bs : List Block) (h : ℕ) → IsTakenOrSame consumer (b ∷ bs) (lower_half consumer b ∷ upper_half b ∷ bs) h
halved_here consumer b bs h = elim (in_or_not h (lower_half consumer b)) [
  | inl at ↦ inl (owner_here h (lower_half consumer b) (upper_half b ∷ bs) at)
  | inr away ↦ inr (owner_behind h (lower_half consumer b) (upper_half b ∷ bs) away ∙ rest away)
]
  where
    rest : (IsIn h (lower_half consumer b) → ⊥) → owner_among (upper_half b ∷ bs) h ≡ owner_among (b ∷ bs) h
    rest away = elim (in_or_not h b) [
      | inl at ↦
          let upper : IsIn h (upper_half b) = elim (cases_lt h (b.from + half b.size)) [
            | inl below ↦ absurd (away (at.0, below))
            | inr past ↦ (past, omega (arith, at.1))
          ] in
          owner_here h (upper_half b) bs upper ∙ sym (owner_here h b bs at)
      | inr out ↦
          owner_behind h (upper_half b) bs (λ at. out (omega (arith, at.0), omega (arith, at.0, at.1)))
          ∙ sym (owner_behind h b bs out)
    ]

halved : (size consumer : ℕ) (bs : List Block) (h : ℕ) → IsTakenOrSame consumer bs (halving size consumer bs) h
halved size consumer [] h = inr refl
halved size consumer (b ∷ bs) h = by (b.size == size) refl (halved size consumer bs h)
  where
    later : IsTakenOrSame consumer bs (halving size consumer bs) h → IsTakenOrSame consumer (b ∷ bs) (b ∷ halving size consumer bs) h
    later (inr same) = inr (same_behind h b (halving size consumer bs) bs same)
    later (inl taken) = elim (in_or_not h b) [
      | inl at ↦ inr (owner_here h b (halving size consumer bs) at ∙ sym (owner_here h b bs at))
      | inr away ↦ inl (owner_behind h b (halving size consumer bs) away ∙ taken)
    ]

    by : (t : Bool) → (b.size == size) ≡ t → IsTakenOrSame consumer bs (halving size consumer bs) h → IsTakenOrSame consumer (b ∷ bs) (cond t (lower_half consumer b ∷ upper_half b ∷ bs) (b ∷ halving size consumer bs)) h
    by true _ _ = halved_here consumer b bs h
    by false _ before = later before

-- who joins has the hash, or its owner stays
pub owner_joined : (consumer : ℕ) (bs : List Block) (h : ℕ) → h < 65536 → IsTakenOrSame consumer bs (shared_out consumer bs) h
owner_joined consumer [] h within = inl (owner_here h (all_hashes consumer) [] (omega arith, within))
owner_joined consumer (b ∷ bs) h within = halved (most_hashes (b ∷ bs)) consumer (b ∷ bs) h

-- ---- leaving

nothing : {A : Type 0} (xs : List A) → length xs ≡ 0 → xs ≡ []
nothing [] _ = refl
nothing (x ∷ xs) some = absurd (omega (arith, some))

-- the share in front goes
gone_lower : (a b : Block) (rest : List Block) (h : ℕ) → b.from ≡ a.from + a.size → (IsIn h a → ⊥) → owner_among (with_lower a b ∷ rest) h ≡ owner_among (a ∷ b ∷ rest) h
gone_lower a b rest h next away = elim (in_or_not h b) [
  | inl at ↦
      owner_here h (with_lower a b) rest (omega (arith, at.0, next), omega (arith, at.1, next))
      ∙ sym (owner_behind h a (b ∷ rest) away ∙ owner_here h b rest at)
  | inr out ↦
      owner_behind h (with_lower a b) rest (λ at. elim (cases_lt h (a.from + a.size)) [
        | inl below ↦ away (at.0, below)
        | inr past ↦ out (omega (arith, past, next), omega (arith, at.1, next))
      ])
      ∙ sym (owner_behind h a (b ∷ rest) away ∙ owner_behind h b rest out)
]

-- the last share goes
gone_upper : (a b : Block) (h : ℕ) → b.from ≡ a.from + a.size → (IsIn h b → ⊥) → owner_among (with_upper b a ∷ []) h ≡ owner_among (a ∷ b ∷ []) h
gone_upper a b h next away = elim (in_or_not h a) [
  | inl at ↦ owner_here h (with_upper b a) [] (at.0, omega (arith, at.1)) ∙ sym (owner_here h a (b ∷ []) at)
  | inr out ↦
      owner_behind h (with_upper b a) [] (λ at. elim (cases_lt h (a.from + a.size)) [
        | inl below ↦ out (at.0, below)
        | inr past ↦ away (omega (arith, past, next), omega (arith, at.1, next))
      ])
      ∙ sym (owner_behind h a (b ∷ []) out ∙ owner_behind h b [] away)
]

left_row : (consumer start : ℕ) (bs : List Block) (h : ℕ) → IsRow start bs → IsOutside (find (is_share_of consumer) bs) h → owner_among (given_back consumer bs) h ≡ owner_among bs h
left_row consumer start [] h row out = refl
left_row consumer start (a ∷ []) h row out = by (is_share_of consumer a) refl
  where
    by : (t : Bool) → is_share_of consumer a ≡ t → owner_among (cond t [] (a ∷ [])) h ≡ owner_among (a ∷ []) h
    by false _ = refl
    by true is = sym (owner_behind h a [] (λ at. out a (ap (λ (t : Bool). cond t (Some a) None) is) at.0 at.1))
left_row consumer start (a ∷ b ∷ rest) h row out =
    by_first (is_share_of consumer a) refl (left_row consumer (start + a.size) (b ∷ rest) h row.1)
  where
    next : b.from ≡ a.from + a.size
    next = omega (arith, row.0, row.1.0)

    find_behind : is_share_of consumer a ≡ false → find (is_share_of consumer) (a ∷ b ∷ rest) ≡ find (is_share_of consumer) (b ∷ rest)
    find_behind away = ap (λ (t : Bool). cond t (Some a) (find (is_share_of consumer) (b ∷ rest))) away

    find_second : is_share_of consumer b ≡ true → find (is_share_of consumer) (b ∷ rest) ≡ Some b
    find_second is = ap (λ (t : Bool). cond t (Some b) (find (is_share_of consumer) rest)) is

    last : is_share_of consumer a ≡ false → is_share_of consumer b ≡ true → rest ≡ [] → owner_among (with_upper b a ∷ []) h ≡ owner_among (a ∷ b ∷ rest) h
    last away is none =
        gone_upper a b h next (λ at. out b (find_behind away ∙ find_second is) at.0 at.1)
        ∙ ap (λ (bs : List Block). owner_among (a ∷ b ∷ bs) h) (sym none)

    by_second : is_share_of consumer a ≡ false → (t : Bool) → (is_share_of consumer b && length rest == 0) ≡ t → (IsOutside (find (is_share_of consumer) (b ∷ rest)) h → owner_among (given_back consumer (b ∷ rest)) h ≡ owner_among (b ∷ rest) h) → owner_among (cond t (with_upper b a ∷ []) (a ∷ given_back consumer (b ∷ rest))) h ≡ owner_among (a ∷ b ∷ rest) h
    by_second away true is _ =
        let both = and_parts (is_share_of consumer b) (length rest == 0) is in
        last away both.0 (nothing rest (eqb-true (length rest) 0 both.1))
    by_second away false _ later =
        same_behind h a (given_back consumer (b ∷ rest)) (b ∷ rest) (later (λ x found. out x (find_behind away ∙ found)))

    by_first : (t : Bool) → is_share_of consumer a ≡ t → (IsOutside (find (is_share_of consumer) (b ∷ rest)) h → owner_among (given_back consumer (b ∷ rest)) h ≡ owner_among (b ∷ rest) h) → owner_among (cond t (with_lower a b ∷ rest) (cond (is_share_of consumer b && length rest == 0) (with_upper b a ∷ []) (a ∷ given_back consumer (b ∷ rest)))) h ≡ owner_among (a ∷ b ∷ rest) h
    by_first true is _ =
        gone_lower a b rest h next (λ at. out a (ap (λ (t : Bool). cond t (Some a) (find (is_share_of consumer) (b ∷ rest))) is) at.0 at.1)
    by_first false away later = by_second away (is_share_of consumer b && length rest == 0) refl later

-- the owner of a hash outside the share of who leaves stays
pub owner_left : (consumer : ℕ) (bs : List Block) (h : ℕ) → SplitAllHashes bs → IsOutside (find (is_share_of consumer) bs) h → owner_among (given_back consumer bs) h ≡ owner_among bs h
owner_left consumer [] h split out = refl
owner_left consumer (b ∷ bs) h split out = left_row consumer 0 (b ∷ bs) h split out

-- the share ends at most at the last hash
within_row : (consumer start : ℕ) (bs : List Block) (share : Block) → IsRow start bs → find (is_share_of consumer) bs ≡ Some share → share.from + share.size ≤ 65536
within_row consumer start [] share row found = absurd (none-some share found)
within_row consumer start (a ∷ bs) share row found =
    by (is_share_of consumer a) refl found (within_row consumer (start + a.size) bs share row.1)
  where
    by : (t : Bool) → is_share_of consumer a ≡ t → cond t (Some a) (find (is_share_of consumer) bs) ≡ Some share → (find (is_share_of consumer) bs ≡ Some share → share.from + share.size ≤ 65536) → share.from + share.size ≤ 65536
    by true _ is _ =
        subst (λ (x : Block). x.from + x.size ≤ 65536) (same_Some a share is) (omega (arith, row.0, row_end (start + a.size) bs row.1))
    by false _ is later = later is

pub share_within : (consumer : ℕ) (bs : List Block) (share : Block) → SplitAllHashes bs → find (is_share_of consumer) bs ≡ Some share → share.from + share.size ≤ 65536
share_within consumer [] share split found = absurd (none-some share found)
share_within consumer (b ∷ bs) share split found = within_row consumer 0 (b ∷ bs) share split found

pub outside_span : (o : Option Block) (share : Block) → Some share ≡ o → (h : ℕ) → (share.from ≤ h → h < share.from + share.size → ⊥) → IsOutside o h
outside_span o share is h out b found from below =
    subst (λ (x : Block). x.from ≤ h → h < x.from + x.size → ⊥) (same_Some share b (is ∙ found)) out from below

pub outside_none : (o : Option Block) → None ≡ o → (h : ℕ) → IsOutside o h
outside_none o none h b found _ _ = none-some b (none ∙ found)
