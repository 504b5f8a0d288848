-- A join is taken back.
use Rattle.std.proofs.Common.{◌≡◌, ℕ, suc, ◌+◌, ◌-◌, ◌/◌, List, [], ◌∷◌, ◌++◌, length, take, Option, Some, None, inl, inr, Bool, true, false, cond, refl, ap, ◌∙◌, sym, arith}
use Rattle.std.specs.Prelude.{◌≢◌, ◌==◌, ◌||◌, ◌&&◌, not, nat_lt, is_some}
use Rattle.std.specs.List.{list_any}
use Rattle.std.proofs.lemmas.Bool.{true≢false, ne_eqb}
use Rattle.std.proofs.lemmas.Grind.{common_steps}
use Rattle.position_core.specs.declared.block.Block.{Block}
use Rattle.position_core.specs.declared.ranges.HashRange.{HashRange}
use Rattle.position_core.specs.declared.kind.Kind.{Kind}
use Rattle.position_core.specs.declared.kind.Kind.TheVariants.{Exclusive, Failover, Shared, KeyShared}
use Rattle.delivery_machine.specs.Shares.{Shares, all_hashes, block_of, given_back, halving, is_share_of, lower_half, most_hashes, no_shares, shared_out, shares_with, shares_without, sticky_shares, upper_half, with_block, with_lower, with_ranges, with_upper}
use Rattle.delivery_machine.specs.ShareSets.{AreShares}
use Rattle.delivery_machine.proofs.Deciding.{itself}
use Rattle.delivery_machine.proofs.StickyLeft.{others}
use Rattle.topic_subscriptions.specs.Placed.{KeepsPolicy, Placed, joined_by}

-- the two halves of a share are the share
halves : (consumer : ℕ) (b : Block) → with_lower (lower_half consumer b) (upper_half b) ≡ b
halves consumer b = ap (λ (n : ℕ). let x : Block = record { from = b.from; size = n; consumer = b.consumer } in x) (whole b.size)
  where
    whole : (n : ℕ) → (n + 1) / 2 + (n - (n + 1) / 2) ≡ n
    whole n = omega arith

-- nobody of these has a share of the consumer
first_other : (consumer : ℕ) (b : Block) (bs : List Block) → list_any (is_share_of consumer) (b ∷ bs) ≡ false → is_share_of consumer b ≡ false
first_other consumer b bs none = by (is_share_of consumer b) refl
  where
    by : (c : Bool) → is_share_of consumer b ≡ c → is_share_of consumer b ≡ false
    by true is = absurd (true≢false (sym (ap (λ c. c || list_any (is_share_of consumer) bs) is) ∙ none))
    by false is = is

rest_others : (consumer : ℕ) (b : Block) (bs : List Block) → list_any (is_share_of consumer) (b ∷ bs) ≡ false → list_any (is_share_of consumer) bs ≡ false
rest_others consumer b bs none = sym (ap (λ c. c || list_any (is_share_of consumer) bs) (first_other consumer b bs none)) ∙ none

halved_here : (consumer : ℕ) (b : Block) (bs : List Block) → given_back consumer (lower_half consumer b ∷ upper_half b ∷ bs) ≡ b ∷ bs
halved_here consumer b bs =
    ap (λ c. cond c (with_lower (lower_half consumer b) (upper_half b) ∷ bs) (cond (is_share_of consumer (upper_half b) && length bs == 0) (with_upper (upper_half b) (lower_half consumer b) ∷ []) (lower_half consumer b ∷ given_back consumer (upper_half b ∷ bs)))) (itself consumer)
    ∙ ap (λ (x : Block). x ∷ bs) (halves consumer b)

alone : (consumer : ℕ) (b : Block) → is_share_of consumer b ≡ false → given_back consumer (b ∷ []) ≡ b ∷ []
alone consumer b other = ap (λ c. cond c [] (b ∷ [])) other

passed : (consumer : ℕ) (a b : Block) (rest : List Block) → is_share_of consumer a ≡ false → (is_share_of consumer b && length rest == 0) ≡ false → given_back consumer (a ∷ b ∷ rest) ≡ a ∷ given_back consumer (b ∷ rest)
passed consumer a b rest other inner =
    ap (λ c. cond c (with_lower a b ∷ rest) (cond (is_share_of consumer b && length rest == 0) (with_upper b a ∷ []) (a ∷ given_back consumer (b ∷ rest)))) other
    ∙ ap (λ c. cond c (with_upper b a ∷ []) (a ∷ given_back consumer (b ∷ rest))) inner

halved_back : (size consumer : ℕ) (bs : List Block) → list_any (is_share_of consumer) bs ≡ false → given_back consumer (halving size consumer bs) ≡ bs
halved_back size consumer [] none = refl
halved_back size consumer (b ∷ []) none = by (b.size == size)
  where
    by : (c : Bool) → given_back consumer (cond c (lower_half consumer b ∷ upper_half b ∷ []) (b ∷ [])) ≡ b ∷ []
    by true = halved_here consumer b []
    by false = alone consumer b (first_other consumer b [] none)
halved_back size consumer (a ∷ b ∷ rest) none = by (a.size == size) (b.size == size) (halved_back size consumer (b ∷ rest) (rest_others consumer a (b ∷ rest) none))
  where
    other : is_share_of consumer a ≡ false
    other = first_other consumer a (b ∷ rest) none

    next : is_share_of consumer b ≡ false
    next = first_other consumer b rest (rest_others consumer a (b ∷ rest) none)

    and_none : (x : Bool) → (x && false) ≡ false
    and_none true = refl
    and_none false = refl

    by : (c d : Bool) → given_back consumer (cond d (lower_half consumer b ∷ upper_half b ∷ rest) (b ∷ halving size consumer rest)) ≡ b ∷ rest
        → given_back consumer (cond c (lower_half consumer a ∷ upper_half a ∷ b ∷ rest) (a ∷ cond d (lower_half consumer b ∷ upper_half b ∷ rest) (b ∷ halving size consumer rest))) ≡ a ∷ b ∷ rest
    by true d back = halved_here consumer a (b ∷ rest)
    by false true back = passed consumer a (lower_half consumer b) (upper_half b ∷ rest) other (ap (λ x. is_share_of consumer (lower_half consumer b) && x) (not_empty (length rest)) ∙ and_none (is_share_of consumer (lower_half consumer b))) ∙ ap (λ xs. a ∷ xs) back
      where
        not_empty : (n : ℕ) → (suc n == 0) ≡ false
        not_empty n = ne_eqb (suc n) 0 (λ e. absurd (omega arith))
    by false false back = passed consumer a b (halving size consumer rest) other (ap (λ x. x && length (halving size consumer rest) == 0) next) ∙ ap (λ xs. a ∷ xs) back

none_back : (consumer : ℕ) (bs : List Block) → list_any (is_share_of consumer) bs ≡ false → given_back consumer bs ≡ bs
none_back consumer [] none = refl
none_back consumer (b ∷ []) none = alone consumer b (first_other consumer b [] none)
none_back consumer (a ∷ b ∷ rest) none =
    passed consumer a b rest (first_other consumer a (b ∷ rest) none) (ap (λ x. x && length rest == 0) (first_other consumer b rest (rest_others consumer a (b ∷ rest) none)))
    ∙ ap (λ xs. a ∷ xs) (none_back consumer (b ∷ rest) (rest_others consumer a (b ∷ rest) none))

-- ---- sticky shares

module _ (consumer : ℕ) where
  put_out : (b : Block) (bs : List Block) → is_share_of consumer b ≡ true → others consumer (with_block b bs) ≡ others consumer bs
  put_out b [] own = ap (λ c. cond (not c) (b ∷ []) []) own
  put_out b (c ∷ bs) own = by (nat_lt b.from c.from) (put_out b bs own)
    where
      by : (t : Bool) → others consumer (with_block b bs) ≡ others consumer bs → others consumer (cond t (b ∷ c ∷ bs) (c ∷ with_block b bs)) ≡ others consumer (c ∷ bs)
      by true rest = ap (λ x. cond (not x) (b ∷ others consumer (c ∷ bs)) (others consumer (c ∷ bs))) own
      by false rest = ap (λ xs. cond (not (is_share_of consumer c)) (c ∷ xs) xs) rest

  taken_out : (ranges : List HashRange) (bs : List Block) → others consumer (with_ranges consumer ranges bs) ≡ others consumer bs
  taken_out [] bs = refl
  taken_out (r ∷ rs) bs = taken_out rs (with_block (block_of consumer r) bs) ∙ put_out (block_of consumer r) bs (itself consumer)

  all_others : (bs : List Block) → list_any (is_share_of consumer) bs ≡ false → others consumer bs ≡ bs
  all_others [] none = refl
  all_others (b ∷ bs) none = ap (λ c. cond (not c) (b ∷ others consumer bs) (others consumer bs)) (first_other consumer b bs none) ∙ ap (λ xs. b ∷ xs) (all_others bs (rest_others consumer b bs none))

  some_sticky : (bs : List Block) → bs ≢ [] → sticky_shares bs ≡ record { blocks = bs; sticky = true }
  some_sticky [] some = absurd (some refl)
  some_sticky (b ∷ bs) some = refl

-- ---- by the policy

-- of one that is sticky, and of one that is not
sticky_back : (consumer : ℕ) (ranges : List HashRange) (bs : List Block) → bs ≢ [] → list_any (is_share_of consumer) bs ≡ false → sticky_shares (others consumer (with_ranges consumer ranges bs)) ≡ record { blocks = bs; sticky = true }
sticky_back consumer ranges bs some none = ap sticky_shares (taken_out consumer ranges bs ∙ all_others consumer bs none) ∙ some_sticky consumer bs some

split_back : (consumer : ℕ) (bs : List Block) → list_any (is_share_of consumer) bs ≡ false → given_back consumer (shared_out consumer bs) ≡ bs
split_back consumer [] none = ap (λ c. cond c [] (all_hashes consumer ∷ [])) (itself consumer)
split_back consumer (b ∷ bs) none = halved_back (most_hashes (b ∷ bs)) consumer (b ∷ bs) none

module _ (consumer : ℕ) (bs : List Block) (none : list_any (is_share_of consumer) bs ≡ false) where
  abbrev table : Bool → Shares
  table sticky = record { blocks = bs; sticky = sticky }

  unchanged : (sticky : Bool) → AreShares (table sticky) → shares_without consumer (table sticky) ≡ table sticky
  unchanged true are = sticky_back consumer [] bs are.some none
  unchanged false are = ap (λ (xs : List Block). let s : Shares = record { blocks = xs; sticky = false } in s) (none_back consumer bs none)

  back_from : (kind : Kind) (ranges : Option (List HashRange)) (sticky : Bool) → sticky ≡ is_some ranges → AreShares (table sticky) → shares_without consumer (shares_with kind ranges consumer (table sticky)) ≡ table sticky
  back_from KeyShared None true mode are = cc
  back_from KeyShared None false mode are = ap (λ (xs : List Block). let s : Shares = record { blocks = xs; sticky = false } in s) (split_back consumer bs none)
  back_from KeyShared (Some ranges) true mode are = sticky_back consumer ranges bs are.some none
  back_from KeyShared (Some ranges) false mode are = cc
  back_from Exclusive ranges sticky mode are = unchanged sticky are
  back_from Failover ranges sticky mode are = unchanged sticky are
  back_from Shared ranges sticky mode are = unchanged sticky are

back_from_none : (kind : Kind) (ranges : Option (List HashRange)) (consumer : ℕ) → shares_without consumer (shares_with kind ranges consumer no_shares) ≡ no_shares
back_from_none KeyShared None consumer = ap (λ c. let s : Shares = record { blocks = cond c [] (all_hashes consumer ∷ []); sticky = false } in s) (itself consumer)
back_from_none KeyShared (Some ranges) consumer = ap sticky_shares (taken_out consumer ranges [])
back_from_none Exclusive ranges consumer = refl
back_from_none Failover ranges consumer = refl
back_from_none Shared ranges consumer = refl

pub share_back : (kind : Kind) (ranges : Option (List HashRange)) (consumer : ℕ) (shares : Shares) → KeepsPolicy ranges shares → list_any (is_share_of consumer) shares.blocks ≡ false → shares_without consumer (shares_with kind ranges consumer shares) ≡ shares
share_back kind ranges consumer shares (inl empty) none = ap (λ (s : Shares). shares_without consumer (shares_with kind ranges consumer s)) empty ∙ back_from_none kind ranges consumer ∙ sym empty
share_back kind ranges consumer shares (inr keeps) none = back_from consumer shares.blocks none kind ranges shares.sticky keeps.0 keeps.1

-- the line without its last
line_back : (line : List ℕ) (consumer : ℕ) → take (length (line ++ consumer ∷ []) - 1) (line ++ consumer ∷ []) ≡ line
line_back line consumer = grind (arith, common_steps)

pub join_undone : (kind taken : Kind) (ranges : Option (List HashRange)) (consumer : ℕ) (p joined : Placed) (line : List ℕ) (shares : Shares) → joined ≡ joined_by taken ranges consumer p → p.kind ≡ kind
    → KeepsPolicy ranges p.shares → list_any (is_share_of consumer) p.shares.blocks ≡ false
    → line ≡ take (length joined.line - 1) joined.line → shares ≡ shares_without consumer joined.shares
    → ◌≡◌ {A = Placed} (record joined { kind = kind; line = line; shares = shares }) p
join_undone kind taken ranges consumer p joined line shares is same policy none line_is shares_is =
    let left : line ≡ p.line = line_is ∙ ap (λ (x : Placed). take (length x.line - 1) x.line) is ∙ line_back p.line consumer in
    let back : shares ≡ p.shares = shares_is ∙ ap (λ (x : Placed). shares_without consumer x.shares) is ∙ share_back taken ranges consumer p.shares policy none in
    ap (λ (x : Placed). let y : Placed = record x { kind = kind; line = line; shares = shares } in y) is
    ∙ ap (λ (k : Kind). let y : Placed = record p { kind = k; line = line; shares = shares } in y) (sym same)
    ∙ ap (λ (l : List ℕ). let y : Placed = record p { line = l; shares = shares } in y) left
    ∙ ap (λ (b : Shares). let y : Placed = record p { shares = b } in y) back
