-- In Key_Shared each member of a subscription has a share, and nobody else, whoever joins or leaves.
use Rattle.std.proofs.Common.{◌≡◌, ℕ, ◌+◌, ◌<◌, List, [], ◌∷◌, length, Option, Some, None, Bool, true, false, cond, refl, ap, ◌∙◌, sym, subst, arith}
use Rattle.std.specs.Prelude.{IfSome, ◌==◌, ◌&&◌, ◌||◌, not, if◌then◌else◌}
use Rattle.std.specs.List.{list_any}
use Rattle.std.proofs.lemmas.Bool.Decides.{nat_tests}
use Rattle.position_core.specs.declared.block.Block.{Block}
use Rattle.position_core.specs.declared.kind.Kind.{Kind}
use Rattle.position_core.specs.declared.kind.Kind.TheVariants.{Exclusive, Failover, Shared, KeyShared}
use Rattle.position_core.specs.Kind.{same_kind}
use Rattle.position_core.specs.declared.ranges.HashRange.{HashRange}
use Rattle.position_core.specs.Ranges.{AreRanges}
use Rattle.delivery_machine.specs.Shares.{Shares, no_shares, shares_with, shares_without, sticky_shares, is_taken, mixes, asks_taken, is_share_of, given_back}
use Rattle.delivery_machine.specs.ShareSets.{AreShares}
use Rattle.delivery_machine.proofs.Kept.{kinds_agree}
use Rattle.delivery_machine.proofs.Sticky.{any_with_ranges}
use Rattle.delivery_machine.proofs.StickyLeft.{others, any_of_others}
use Rattle.machine_laws.proofs.SharesByMode.{none_split, nobody_shares, shares_joined, shares_joined_sticky, shares_left, split_unless_sticky, without_where_split, without_where_sticky}
use Rattle.machine_laws.proofs.Sharers.{any_shared_out, length_shared_out, any_given_back, length_given_back}

-- in Key_Shared the consumers of the shares are those that are there, with one share each where all hashes are split; in the
-- other kinds there are no shares
pub record HaveShares (kind : Kind) (shares : Shares) (there : ℕ → Bool) (count : ℕ) : Type 0 where
  pub are : AreShares shares
  pub owners : (number : ℕ) → list_any (is_share_of number) shares.blocks ≡ (same_kind kind KeyShared && there number)
  pub as_many : shares.sticky ≡ false → length shares.blocks ≡ (if same_kind kind KeyShared then count else 0)

pub shares_of_same : (kind : Kind) (shares : Shares) (there there' : ℕ → Bool) (count count' : ℕ) → ((number : ℕ) → there' number ≡ there number) → count' ≡ count → HaveShares kind shares there count → HaveShares kind shares there' count'
shares_of_same kind shares there there' count count' same as_many have = record {
  are = have.are;
  owners = λ number. have.owners number ∙ sym (ap (λ b. same_kind kind KeyShared && b) (same number));
  as_many = λ split. have.as_many split ∙ sym (ap (λ (n : ℕ). if same_kind kind KeyShared then n else 0) as_many);
}

-- ---- joining

never : (t : Bool) → (t && false) ≡ false
never t = grind (arith, nat_tests)

zero_ever : (t : Bool) → cond {A = ℕ} t 0 0 ≡ 0
zero_ever true = refl
zero_ever false = refl

-- where nobody is there, there are no shares, and any kind may come
pub nobody_there : (kind : Kind) (there : ℕ → Bool) → ((number : ℕ) → there number ≡ false) → HaveShares kind no_shares there 0
nobody_there kind there nobody = record {
  are = none_split;
  owners = λ number. sym (ap (λ b. same_kind kind KeyShared && b) (nobody number) ∙ never (same_kind kind KeyShared));
  as_many = λ split. sym (zero_ever (same_kind kind KeyShared));
}

pub none_where_nobody : (kind : Kind) (shares : Shares) (there : ℕ → Bool) (count : ℕ) → ((number : ℕ) → there number ≡ false) → HaveShares kind shares there count → shares ≡ no_shares
none_where_nobody kind shares there count nobody have =
    nobody_shares shares have.are (λ number. have.owners number ∙ ap (λ b. same_kind kind KeyShared && b) (nobody number) ∙ never (same_kind kind KeyShared))

pub of_any_kind : (old kind : Kind) (shares : Shares) (there : ℕ → Bool) (count : ℕ) → (same_kind old kind ≡ false → (count ≡ 0) × ((number : ℕ) → there number ≡ false)) → HaveShares old shares there count → HaveShares kind shares there count
of_any_kind old kind shares there count free have = by (same_kind old kind) refl
  where
    by : (t : Bool) → same_kind old kind ≡ t → HaveShares kind shares there count
    by true same = subst (λ (k : Kind). HaveShares k shares there count) (kinds_agree old kind same) have
    by false other =
        let none = free other in
        subst (λ (left : Shares). HaveShares kind left there count) (sym (none_where_nobody old shares there count none.1 have))
        (shares_of_same kind no_shares there there 0 count (λ _. refl) none.0 (nobody_there kind there none.1))

-- what joining with the ranges, or without any, needs of the shares
abbrev pub MayShare : Kind → Option (List HashRange) → Shares → Type 0
MayShare KeyShared None shares = shares.sticky ≡ false
MayShare KeyShared (Some ranges) shares = AreRanges ranges × (is_taken ranges shares ≡ false)
MayShare Exclusive ranges shares = Unit {0}
MayShare Failover ranges shares = Unit {0}
MayShare Shared ranges shares = Unit {0}

-- the policy is that of the consumers, where there are any, and nobody has the hashes
pub may_share : (kind : Kind) (ranges : Option (List HashRange)) (shares : Shares) (some : Bool) → IfSome ranges AreRanges → (some && mixes kind ranges shares) ≡ false → asks_taken kind ranges shares ≡ false → (some ≡ false → shares ≡ no_shares) → MayShare kind ranges shares
may_share KeyShared None shares some ranged pure free none = by shares.sticky refl
  where
    nobody : (s : Bool) → (s && true) ≡ false → s ≡ false
    nobody s e = grind (arith, nat_tests)

    by : (t : Bool) → shares.sticky ≡ t → shares.sticky ≡ false
    by false is = is
    by true is = ap (λ (shares : Shares). shares.sticky) (none (nobody some (sym (ap (λ t. some && (if t then true else false)) is) ∙ pure)))
may_share KeyShared (Some ranges) shares some ranged pure free none = (ranged, free)
may_share Exclusive ranges shares some ranged pure free none = tt
may_share Failover ranges shares some ranged pure free none = tt
may_share Shared ranges shares some ranged pure free none = tt

-- so it is where nobody was
pub may_share_first : (kind : Kind) (ranges : Option (List HashRange)) → IfSome ranges AreRanges → MayShare kind ranges no_shares
may_share_first KeyShared None ranged = refl
may_share_first KeyShared (Some ranges) ranged = (ranged, nothing_taken ranges)
  where
    nothing_taken : (ranges : List HashRange) → is_taken ranges no_shares ≡ false
    nothing_taken [] = refl
    nothing_taken (r ∷ rs) = nothing_taken rs
may_share_first Exclusive ranges ranged = tt
may_share_first Failover ranges ranged = tt
may_share_first Shared ranges ranged = tt

-- a further member
pub shares_pushed : (kind : Kind) (ranges : Option (List HashRange)) (shares : Shares) (there there' : ℕ → Bool) (count count' consumer : ℕ) → MayShare kind ranges shares → there consumer ≡ false → count < 64
    → ((number : ℕ) → there' number ≡ (there number || consumer == number)) → count' ≡ count + 1 → HaveShares kind shares there count → HaveShares kind (shares_with kind ranges consumer shares) there' count'
shares_pushed KeyShared None shares there there' count count' consumer split away few more one have =
    let n : length shares.blocks ≡ count = have.as_many split in record {
      are = shares_joined consumer shares have.are split (have.owners consumer ∙ away) (omega (arith, n));
      owners = λ number. any_shared_out number consumer shares.blocks ∙ ap (λ t. t || consumer == number) (have.owners number) ∙ sym (more number);
      as_many = λ _. let m = length_shared_out consumer shares.blocks in omega (arith, n, m);
    }
shares_pushed KeyShared (Some ranges) shares there there' count count' consumer may away few more one have = record {
  are = shares_joined_sticky consumer ranges shares may.0 have.are may.1;
  owners = λ number. any_with_ranges consumer number ranges shares.blocks may.0.some ∙ ap (λ t. t || consumer == number) (have.owners number) ∙ sym (more number);
  as_many = λ split. cc;
}
shares_pushed Exclusive ranges shares there there' count count' consumer may away few more one have = record { are = have.are; owners = have.owners; as_many = have.as_many }
shares_pushed Failover ranges shares there there' count count' consumer may away few more one have = record { are = have.are; owners = have.owners; as_many = have.as_many }
shares_pushed Shared ranges shares there there' count count' consumer may away few more one have = record { are = have.are; owners = have.owners; as_many = have.as_many }

-- ---- leaving

any_of_sticky : (number : ℕ) (bs : List Block) → list_any (is_share_of number) (sticky_shares bs).blocks ≡ list_any (is_share_of number) bs
any_of_sticky number [] = refl
any_of_sticky number (b ∷ bs) = refl

-- they are split again where nobody is left
none_left : (bs : List Block) → (sticky_shares bs).sticky ≡ false → (length (sticky_shares bs).blocks ≡ 0) × ((number : ℕ) → list_any (is_share_of number) bs ≡ false)
none_left [] split = (refl, λ number. refl)
none_left (b ∷ bs) split = cc

-- a member leaves, and the others stay
pub shares_taken : (kind : Kind) (shares : Shares) (there left : ℕ → Bool) (count fewer consumer : ℕ) → there consumer ≡ true → ((number : ℕ) → left number ≡ (there number && not (number == consumer))) → count ≡ fewer + 1
    → (((number : ℕ) → left number ≡ false) → fewer ≡ 0) → HaveShares kind shares there count → HaveShares kind (shares_without consumer shares) left fewer
shares_taken kind shares there left count fewer consumer at others_stay one last have = by (same_kind kind KeyShared) refl
  where
    -- whose share goes
    stay : same_kind kind KeyShared ≡ true → (number : ℕ) → (list_any (is_share_of number) shares.blocks && not (number == consumer)) ≡ (same_kind kind KeyShared && left number)
    stay key number =
        ap (λ u. u && not (number == consumer)) (have.owners number ∙ ap (λ t. t && there number) key)
        ∙ sym (ap (λ t. t && left number) key ∙ others_stay number)

    split : same_kind kind KeyShared ≡ true → shares.sticky ≡ false → HaveShares kind (record shares { blocks = given_back consumer shares.blocks }) left fewer
    split key not_sticky =
        let mine : list_any (is_share_of consumer) shares.blocks ≡ true = have.owners consumer ∙ ap (λ t. t && there consumer) key ∙ at in
        let many : length shares.blocks ≡ count = have.as_many not_sticky ∙ ap (λ t. cond t count 0) key in
        record {
          are = subst AreShares (without_where_split consumer shares not_sticky) (shares_left consumer shares have.are);
          owners = λ number. any_given_back number consumer shares.blocks (split_unless_sticky shares not_sticky have.are).distinct mine ∙ stay key number;
          as_many = λ _. less many (length_given_back consumer shares.blocks mine) ∙ sym (ap (λ t. cond t fewer 0) key);
        }
      where
        less : length shares.blocks ≡ count → length (given_back consumer shares.blocks) + 1 ≡ length shares.blocks → length (given_back consumer shares.blocks) ≡ fewer
        less same gone = omega (arith, same, gone, one)

    sticky : same_kind kind KeyShared ≡ true → shares.sticky ≡ true → HaveShares kind (sticky_shares (others consumer shares.blocks)) left fewer
    sticky key is = record {
      are = subst AreShares (without_where_sticky consumer shares is) (shares_left consumer shares have.are);
      owners = owned;
      as_many = λ not_sticky.
          let none = none_left (others consumer shares.blocks) not_sticky in
          none.0 ∙ sym (ap (λ t. cond t fewer 0) key ∙ last (λ number. sym (ap (λ t. t && left number) key) ∙ sym (owned number) ∙ any_of_sticky number (others consumer shares.blocks) ∙ none.1 number));
    }
      where
        owned : (number : ℕ) → list_any (is_share_of number) (sticky_shares (others consumer shares.blocks)).blocks ≡ (same_kind kind KeyShared && left number)
        owned number = any_of_sticky number (others consumer shares.blocks) ∙ any_of_others consumer number shares.blocks ∙ stay key number

    by_mode : same_kind kind KeyShared ≡ true → (t : Bool) → shares.sticky ≡ t → HaveShares kind (shares_without consumer shares) left fewer
    by_mode key true is = subst (λ (new : Shares). HaveShares kind new left fewer) (sym (without_where_sticky consumer shares is)) (sticky key is)
    by_mode key false not_sticky = subst (λ (new : Shares). HaveShares kind new left fewer) (sym (without_where_split consumer shares not_sticky)) (split key not_sticky)

    by : (t : Bool) → same_kind kind KeyShared ≡ t → HaveShares kind (shares_without consumer shares) left fewer
    by true key = by_mode key shares.sticky refl
    by false other =
        let none : shares ≡ no_shares = nobody_shares shares have.are (λ number. have.owners number ∙ ap (λ t. t && there number) other) in
        subst (λ (old : Shares). HaveShares kind (shares_without consumer old) left fewer) (sym none) (record {
          are = none_split;
          owners = λ number. sym (ap (λ t. t && left number) other);
          as_many = λ _. sym (ap (λ t. cond t fewer 0) other);
        })
