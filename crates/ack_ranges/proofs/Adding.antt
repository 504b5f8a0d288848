-- One more number: what is kept after it.
use Rattle.std.proofs.Common.{◌≡◌, ℕ, ◌<◌, ◌+◌, ◌^◌, List, None, true, false, refl, ap, ◌∙◌, arith}
use Rattle.std.specs.Ordering.{nat_cmp}
use Rattle.std.specs.FinSet as set
use Rattle.std.specs.BTreeMap as tree
use Rattle.ack_ranges.specs.Joining.{AreApart, Joined, TakesIn, end_at}
use Rattle.ack_ranges.specs.Kept.{set_of, AreSmall, Adds}
use Rattle.ack_ranges.specs.Ranges.{RiseAbove}
use Rattle.ack_ranges.proofs.Members.{Sorted, ends_of}
use Rattle.ack_ranges.proofs.Missing.{missing_low, missing_taken}
use Rattle.ack_ranges.proofs.Rises.{apart_from_rise, sorted_from_rise, rise_from_apart, small_from_apart}
use Rattle.ack_ranges.proofs.Sets.{already_in, joined_set, joined_ranges, raised_at}
use Rattle.ack_ranges.proofs.Sizes.{one_more}

module _ (low : ℕ) (es : List (ℕ × ℕ)) (rise : RiseAbove low es) (small : AreSmall es) (few : low < 2 ^ 128) (q : ℕ) where
  pub adds_none : set.contains (set_of low es) q ≡ true → Adds low es q low es false
  adds_none is_in = record { was = is_in; same = already_in (set_of low es) q is_in; counted = omega arith; rise = rise; up_small = few; small = small }

  adds_new : (up : ℕ) (fs : List (ℕ × ℕ)) → Sorted fs → AreApart up (ends_of fs) → set.contains (set_of low es) q ≡ false → set_of up fs ≡ set.insert (set_of low es) q → Adds low es q up fs true
  adds_new up fs sorted apart out same =
      let risen : RiseAbove up fs = rise_from_apart up fs sorted apart in
      record { was = out; same = same; counted = one_more low es q up fs rise risen out same; rise = risen; up_small = apart.low_small; small = small_from_apart up fs sorted apart }

  pub adds_low : (fs : List (ℕ × ℕ)) (end : ℕ) → q ≡ low → Sorted fs → q + 1 < 2 ^ 128 → end ≡ end_at (ends_of es) (q + 1) → ends_of fs (q + 1) ≡ None → ((t : ℕ) → tree.is_at (nat_cmp (q + 1)) t ≡ false → ends_of fs t ≡ ends_of es t) → Adds low es q end fs true
  adds_low fs end same sorted fits is gone others =
      let apart : AreApart low (ends_of es) = apart_from_rise low es few small rise in
      let both : (set_of end fs ≡ set.insert (set_of low es) q) × AreApart end (ends_of fs) = raised_at low es fs q end same (sorted_from_rise low es rise) sorted apart (record { is = is }) fits gone others in
      let out : set.contains (set_of low es) q ≡ false = ap (λ n. set.contains (set_of low es) n) same ∙ (missing_low low es rise small few low (omega arith)).missing in
      adds_new end fs sorted both.1 out both.0

  pub adds_joined : (fs : List (ℕ × ℕ)) (s : ℕ) → Sorted fs → q + 1 < 2 ^ 128 → TakesIn (ends_of es) low s q → Joined (ends_of es) (ends_of fs) s (end_at (ends_of es) (q + 1)) (q + 1) → Adds low es q low fs true
  adds_joined fs s sorted fits takes joined =
      let apart : AreApart low (ends_of es) = apart_from_rise low es few small rise in
      let end : ℕ = end_at (ends_of es) (q + 1) in
      let same : set_of low fs ≡ set.insert (set_of low es) q = joined_set low es fs s q end (sorted_from_rise low es rise) sorted apart takes (record { is = refl }) fits joined in
      adds_new low fs sorted (joined_ranges low es fs s q end apart takes (record { is = refl }) fits joined) (missing_taken low es rise small few s q takes) same
