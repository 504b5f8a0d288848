-- The first messages that are kept, as some are renewed.
use Rattle.std.proofs.Common.{◌≡◌, ◌≢◌, ℕ, ◌-◌, ◌^◌, ◌<◌, ◌≤◌, Bool, true, false, cond, List, [], ◌∷◌, Option, Some, None, ◌⊎◌, inl, inr, refl, sym, ap, ◌∙◌, subst, arith}
use Rattle.std.specs.List.{find}
use Rattle.std.proofs.lemmas.Bool.{cases_eq, cases_lt, cases_Bool}
use Rattle.std.proofs.lemmas.Option.{same_Some, none-some}
use Rattle.position_core.specs.declared.block.Block.{Block}
use Rattle.position_core.specs.declared.ranges.HashRange.{HashRange}
use Rattle.position_core.specs.Ranges.{AreRanges, have_hash}
use Rattle.delivery_machine.specs.State.{State, Subscription}
use Rattle.delivery_machine.specs.Shares.{Shares, owner_of, owner_among, split_with, sticky_with, is_taken, shares_without, sticky_shares, given_back, is_share_of, SplitAllHashes}
use Rattle.delivery_machine.specs.ShareSets.{AreApart}
use Rattle.delivery_machine.proofs.Sticky.{free_of, owner_stays}
use Rattle.delivery_machine.proofs.StickyLeft.{others as gone_from, owner_gone, owner_left as owner_stayed}
use Rattle.dispatch_core.specs.Changes.{OnlyLineChanges}
use Rattle.hash_rows.specs.Standing.{Found}
use Rattle.hash_rows.specs.Knowing.{Knows, KeeperIsRight, WaitBefore, IsFirstOf}
use Rattle.hash_rows.proofs.Moving.{hash_of_log, first_stays}
use Rattle.dispatch_keyed.specs.Owning.{owners_in}
use Rattle.dispatch_keyed.specs.Agreeing.{Agrees}
use Rattle.dispatch_keyed.specs.Resharing.{IsOutside, SameButFirsts, IsRenewed}
use Rattle.dispatch_keyed.specs.Tables.{row_at}
use Rattle.dispatch_keyed.specs.declared.table.Rows.{Rows}
use Rattle.dispatch_keyed.specs.declared.keyed.Keyed.{Keyed}
use Rattle.dispatch_keyed.proofs.Agreed.{row_of, number_of, agrees_shared}
use Rattle.dispatch_keyed.proofs.Firsts.{ownerless, no_first}
use Rattle.dispatch_keyed.proofs.Owning.{shares_in}
use Rattle.dispatch_keyed.proofs.Shares.{owner_joined, owner_left}

-- ---- one after another

pub rest_on : (a b c : Keyed) → SameButFirsts a b → SameButFirsts b c → SameButFirsts a c
rest_on a b c first second = record {
  owners = second.owners ∙ first.owners;
  read = second.read ∙ first.read;
  sent = second.sent ∙ first.sent;
  rows = second.rows ∙ first.rows;
}

-- the first message of another hash stays
pub renewed_on : (a b c : Keyed) (h : ℕ) (s : State) (sub : Subscription) → SameButFirsts b c → number_of c h ≡ number_of b h → IsRenewed a b h s sub → IsRenewed a c h s sub
renewed_on a b c h s sub rest number renewed =
    subst (λ rows. Of rows (number_of c h) c.owners.shares) (sym rest.rows)
    (subst (λ shares. Of b.rows (number_of c h) shares) (sym (shares_in rest.owners))
    (subst (λ (o : Option ℕ). Of b.rows o b.owners.shares) (sym number) renewed))
  where
    Of : Rows → Option ℕ → Shares → Type 0
    Of rows first shares =
        KeeperIsRight (row_at rows h) s sub
        → WaitBefore (row_at rows h) (2 ^ 32 - 1)
        → ((row_at rows h).row ≡ None → number_of a h ≡ None)
        → IsFirstOf (row_at rows h) first (owner_of shares h) s sub

-- it was not touched before
pub renewed_since : (a b c : Keyed) (h : ℕ) (s : State) (sub : Subscription) → number_of b h ≡ number_of a h → IsRenewed b c h s sub → IsRenewed a c h s sub
renewed_since a b c h s sub number renewed right before absent = renewed right before (λ none. number ∙ absent none)

-- it was renewed before, too
pub renewed_again : (a b c : Keyed) (h : ℕ) (s : State) (sub : Subscription) → SameButFirsts b c → IsRenewed a b h s sub → IsRenewed b c h s sub → IsRenewed a c h s sub
renewed_again a b c h s sub rest first then right before absent =
    then right before (λ none.
    no_first (row_of b h) (number_of b h) (owner_of b.owners.shares h) s sub (at_b (λ (o : Found). o.row ≡ None) none)
    (first (at_b (λ (o : Found). KeeperIsRight o s sub) right) (at_b (λ (o : Found). WaitBefore o (2 ^ 32 - 1)) before) (λ gone. absent (ap (λ (o : Found). o.row) same_row ∙ gone))))
  where
    same_row : row_of c h ≡ row_of b h
    same_row = ap (λ m. row_at m h) rest.rows

    at_b : (P : Found → Type 0) → P (row_of c h) → P (row_of b h)
    at_b P p = subst P same_row p

-- ---- members

-- who has a hash when a consumer has left, in either mode
owner_of_split : (consumer : ℕ) (shares : Shares) (h : ℕ) → shares.sticky ≡ false → owner_of (shares_without consumer shares) h ≡ owner_among (given_back consumer shares.blocks) h
owner_of_split consumer shares h not_sticky =
    ap (λ (t : Bool). owner_of (cond t (sticky_shares (gone_from consumer shares.blocks)) (record shares { blocks = given_back consumer shares.blocks })) h) not_sticky

owner_of_sticky : (consumer : ℕ) (shares : Shares) (h : ℕ) → shares.sticky ≡ true → owner_of (shares_without consumer shares) h ≡ owner_among (gone_from consumer shares.blocks) h
owner_of_sticky consumer shares h is_sticky =
    ap (λ (t : Bool). owner_of (cond t (sticky_shares (gone_from consumer shares.blocks)) (record shares { blocks = given_back consumer shares.blocks })) h) is_sticky
    ∙ in_them (gone_from consumer shares.blocks)
  where
    in_them : (bs : List Block) → owner_of (sticky_shares bs) h ≡ owner_among bs h
    in_them [] = refl
    in_them (b ∷ bs) = refl

module _ (d e : Keyed) (s : State) (sub : Subscription) (t : State) (new : Subscription) (agreed : Agrees d s sub) (change : OnlyLineChanges s sub t new) (rows : e.rows ≡ d.rows) where
  -- the owner stays
  still_first : (h : ℕ) → h < 2 ^ 16 → number_of e h ≡ number_of d h → owner_of e.owners.shares h ≡ owner_of d.owners.shares h → IsRenewed d e h t new
  still_first h within number owner right before absent =
      subst (λ (o : Found). IsFirstOf o (number_of e h) (owner_of e.owners.shares h) t new) (sym (ap (λ m. row_at m h) rows))
      (subst (λ (o : Option ℕ). IsFirstOf (row_of d h) o (owner_of e.owners.shares h) t new) (sym number)
      (subst (λ (o : Option ℕ). IsFirstOf (row_of d h) (number_of d h) o t new) (sym (owner ∙ ap (λ bs. owner_of bs h) (shares_in agreed.owners)))
      (first_stays (row_of d h) h d.read s sub t new (λ i _. hash_of_log s t i change.log.log) (λ i _ _. change.messages i) known.row (number_of d h) (owner_of sub.shares h) known.first)))
    where
      known : Knows (row_of d h) (number_of d h) h d.read s sub
      known = agreed.hashes h within

  owned_or_not : (o : Option ℕ) (c : ℕ) → (o ≡ Some c) ⊎ (o ≢ Some c)
  owned_or_not None c = inr (λ is. none-some c is)
  owned_or_not (Some x) c = elim (cases_eq x c) [
    | inl same ↦ inl (ap Some same)
    | inr other ↦ inr (λ is. other (same_Some x c is))
  ]

  pub firsts_joined : (consumer : ℕ) (joined : Shares) → joined ≡ split_with consumer d.owners.shares → e.owners.shares ≡ joined → ((h : ℕ) → owner_of joined h ≢ Some consumer → number_of e h ≡ number_of d h) → ((h : ℕ) → h < 2 ^ 16 → owner_of joined h ≡ Some consumer → IsRenewed d e h t new) → (h : ℕ) → h < 2 ^ 16 → IsRenewed d e h t new
  firsts_joined consumer joined is shares others first h within = elim (owned_or_not (owner_of joined h) consumer) [
    | inl theirs ↦ first h within theirs
    | inr not ↦ elim (owner_joined consumer d.owners.shares.blocks h within) [
      | inl taken ↦ absurd (not (ap (λ shares. owner_of shares h) is ∙ taken))
      | inr same ↦ still_first h within (others h not) (ap (λ shares. owner_of shares h) (shares ∙ is) ∙ same)
    ]
  ]

  pub firsts_taken : (consumer : ℕ) (ranges : List HashRange) → e.owners.shares ≡ sticky_with consumer ranges d.owners.shares → AreRanges ranges → is_taken ranges d.owners.shares ≡ false → ((h : ℕ) → have_hash ranges h ≡ false → number_of e h ≡ number_of d h) → ((h : ℕ) → h < 2 ^ 16 → have_hash ranges h ≡ true → IsRenewed d e h t new) → (h : ℕ) → h < 2 ^ 16 → IsRenewed d e h t new
  firsts_taken consumer ranges shares are free others first h within = elim (cases_Bool (have_hash ranges h)) [
    | inl theirs ↦ first h within theirs
    | inr not ↦
        still_first h within (others h not)
        (ap (λ shares. owner_of shares h) shares
        ∙ owner_stays consumer h 0 ranges d.owners.shares.blocks are.rise (free_of consumer 0 ranges d.owners.shares.blocks are.rise free) not)
  ]

  pub firsts_left : (consumer from end : ℕ) → e.owners.shares ≡ shares_without consumer d.owners.shares → d.owners.shares.sticky ≡ false → SplitAllHashes d.owners.shares.blocks → ((h : ℕ) → (from ≤ h → h < end → ⊥) → IsOutside (find (is_share_of consumer) d.owners.shares.blocks) h) → ((h : ℕ) → (from ≤ h → h < end → ⊥) → number_of e h ≡ number_of d h) → ((h : ℕ) → from ≤ h → h < end → h < 2 ^ 16 → IsRenewed d e h t new) → (h : ℕ) → h < 2 ^ 16 → IsRenewed d e h t new
  firsts_left consumer from end shares not_sticky split outside others first h within = elim (cases_lt h from) [
    | inl before ↦ still (λ start _. omega (arith, start, before))
    | inr start ↦ elim (cases_lt h end) [
      | inl below ↦ first h start below within
      | inr past ↦ still (λ _ below. omega (arith, below, past))
    ]
  ]
    where
      still : (from ≤ h → h < end → ⊥) → IsRenewed d e h t new
      still out =
          still_first h within (others h out)
          (ap (λ shares. owner_of shares h) shares ∙ owner_of_split consumer d.owners.shares h not_sticky
          ∙ owner_left consumer d.owners.shares.blocks h split (outside h out))

  -- the leaver's hashes have no owner then
  firsts_forgotten : (consumer : ℕ) → e.owners.shares ≡ shares_without consumer d.owners.shares → d.owners.shares.sticky ≡ true → AreApart 0 d.owners.shares.blocks → ((h : ℕ) → owner_of d.owners.shares h ≢ Some consumer → number_of e h ≡ number_of d h) → ((h : ℕ) → owner_of d.owners.shares h ≡ Some consumer → number_of e h ≡ None) → (h : ℕ) → h < 2 ^ 16 → IsRenewed d e h t new
  firsts_forgotten consumer shares is_sticky apart others gone h within = elim (owned_or_not (owner_of d.owners.shares h) consumer) [
    | inl theirs ↦ λ right before absent.
        let nobody : owner_of e.owners.shares h ≡ None = owner_now ∙ owner_gone consumer h 0 d.owners.shares.blocks apart theirs in
        subst (λ (o : Option ℕ). IsFirstOf (row_of e h) o (owner_of e.owners.shares h) t new) (sym (gone h theirs)) (ownerless (row_of e h) (owner_of e.owners.shares h) t new nobody)
    | inr not ↦ still_first h within (others h not) (owner_now ∙ owner_stayed consumer h d.owners.shares.blocks not)
  ]
    where
      owner_now : owner_of e.owners.shares h ≡ owner_among (gone_from consumer d.owners.shares.blocks) h
      owner_now = ap (λ shares. owner_of shares h) shares ∙ owner_of_sticky consumer d.owners.shares h is_sticky

  -- the consumer left, and the first messages of its hashes were taken out before
  pub agrees_forgotten : (consumer : ℕ) → e.owners ≡ owners_in t new → e.read ≡ d.read → e.sent ≡ d.sent → e.owners.shares ≡ shares_without consumer d.owners.shares → d.owners.shares.sticky ≡ true → AreApart 0 d.owners.shares.blocks → ((h : ℕ) → owner_of d.owners.shares h ≢ Some consumer → number_of e h ≡ number_of d h) → ((h : ℕ) → owner_of d.owners.shares h ≡ Some consumer → number_of e h ≡ None) → Agrees e t new
  agrees_forgotten consumer owners read sent shares is_sticky apart others gone =
      agrees_shared d e s sub t new change agreed owners read sent (λ h. ap (λ m. row_at m h) rows) (firsts_forgotten consumer shares is_sticky apart others gone)
