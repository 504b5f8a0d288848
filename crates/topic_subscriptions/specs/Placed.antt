-- A subscription as the fast topic keeps it: what is acknowledged and dead by places in the log, all else by positions.
use Rattle.std.specs.Prelude.{◌⊎◌, Option, is_some, ◌≡◌, ℕ, ◌≤◌, ◌<◌, ◌==◌, nat_le, Bool, true, false, not, ◌||◌, List, [], ◌∷◌, ◌++◌, map, length, Some, slice_get}
use Rattle.std.specs.List.{filter, list_any}
use Rattle.std.specs.List.Sorted.{IsStrictlySortedBy}
use Rattle.std.specs.Str.{bytes_eq}
use Rattle.std.specs.Ordering.{nat_cmp}
use Rattle.std.specs.FinSet as set
use Rattle.std.specs.FinMap as map_of
use Rattle.position_core.specs.declared.position.Position.{Position}
use Rattle.position_core.specs.declared.message.Entry.{Entry}
use Rattle.position_core.specs.declared.held.Held.{Held}
use Rattle.position_core.specs.declared.kind.Kind.{Kind}
use Rattle.position_core.specs.declared.ranges.HashRange.{HashRange}
use Rattle.position_core.specs.Position.{position_cmp}
use Rattle.delivery_machine.specs.State.{Member, DeadLetter, Subscription}
use Rattle.delivery_machine.specs.Words.{is_at, is_live}
use Rattle.delivery_machine.specs.Places.{AreBelow, KeptPlaces, positions_at}
use Rattle.log_pieces.specs.Pieces.{index_of}
use Rattle.delivery_machine.specs.Shares.{Shares, no_shares, shares_with, shares_without, is_share_of}
use Rattle.delivery_machine.specs.ShareSets.{AreShares}
use Rattle.ack_ranges.specs.Lowered.{lowered}
use Rattle.ack_ranges.specs.Ranges.{below}
use Rattle.pending_core.specs.Pending as pending
use Rattle.dead_core.specs.Letters as letters

-- `places` is what is acknowledged, and `buried` what died and is not acknowledged; `line` has the numbers of its members
-- in the order of joining
pub record Placed : Type 0 where
  pub name : List ℕ
  pub kind : Kind
  pub places : set.FinSet nat_cmp
  pub buried : set.FinSet nat_cmp
  pub line : List ℕ
  pub pending : pending.Pending
  pub shares : Shares
  pub letters : letters.Letters

-- the machine's subscription, where the log is its topic's
abbrev pub sub_in : List Entry → Placed → Subscription
sub_in log p = record {
  name = p.name;
  kind = p.kind;
  acknowledged = positions_at log p.places;
  pending = p.pending.pending;
  counts = p.pending.counts;
  shares = p.shares;
  dead = p.letters.dead;
  safe = p.letters.safe;
}

abbrev pub is_placed : List ℕ → Placed → Bool
is_placed name p = bytes_eq p.name name

-- positions rise
abbrev pub IsRising : List Entry → Type 0
IsRising log = IsStrictlySortedBy position_cmp (map (λ e. e.position) log)

-- the message at the place is neither acknowledged nor dead
abbrev pub is_live_at : Placed → ℕ → Bool
is_live_at p place = not (set.contains p.places place || set.contains p.buried place)

-- the numbers of the members at the subscription of the name, in the order of joining
abbrev pub line_at : List ℕ → List Member → List ℕ
line_at name members = map (λ m. m.number) (filter (is_at name) members)

-- the message at the position stands in the log, and is live there
pub record IsLiveIn (log : List Entry) (p : Placed) (position : Position) : Type 0 where
  pub place : ℕ
  pub there : index_of position log ≡ Some place
  pub live : is_live_at p place ≡ true

-- the dead letters stand at the places
abbrev pub StandAt : List Entry → List DeadLetter → List ℕ → Type 0
StandAt log letters places = map (λ d. index_of d.position log) letters ≡ map Some places

-- what is kept of the subscription speaks of the log and of the members; what is pending or counted is live
pub record IsPlacedIn (log : List Entry) (members : List Member) (p : Placed) : Type 0 where
  pub within : AreBelow (length log) p.places
  pub buried_within : AreBelow (length log) p.buried
  pub live : (place : ℕ) (e : Entry) → slice_get log place ≡ Some e → is_live (sub_in log p) e ≡ is_live_at p place
  pub line : p.line ≡ line_at p.name members
  pub pending : (position : Position) → map_of.contains_key p.pending.pending position ≡ true → IsLiveIn log p position
  pub counted : (position : Position) → map_of.contains_key p.pending.counts position ≡ true → IsLiveIn log p position

-- the least place from the given one on whose message may be live
pub record IsNextLive (p : Placed) (from place : ℕ) : Type 0 where
  pub after : from ≤ place
  pub live : is_live_at p place ≡ true
  pub least : (k : ℕ) → from ≤ k → k < place → is_live_at p k ≡ false

-- the first messages are acknowledged, so many
abbrev pub AreAcknowledged : ℕ → Placed → Type 0
AreAcknowledged count p = (place : ℕ) → place < count → set.contains p.places place ≡ true

-- ---- snapshots

abbrev pub kept_of : Placed → KeptPlaces
kept_of p = record { name = p.name; kind = p.kind; acknowledged = p.places; counts = p.pending.counts; dead = p.letters.dead }

-- without members, and with nothing pending, where the dead letters stand at the places
abbrev pub restored_from : KeptPlaces → List ℕ → Placed
restored_from kept dead = record {
  name = kept.name;
  kind = kept.kind;
  places = kept.acknowledged;
  buried = set.from_list (filter (λ place. not (set.contains kept.acknowledged place)) dead);
  line = [];
  pending = pending.counted_before kept.counts;
  shares = no_shares;
  letters = record { dead = kept.dead; safe = length kept.dead };
}

-- ---- changes

-- as the first consumer makes it, with so many messages acknowledged
abbrev pub made : List ℕ → Kind → Option (List HashRange) → ℕ → ℕ → Placed
made name kind ranges consumer end = record {
  name = name;
  kind = kind;
  places = below end;
  buried = set.empty;
  line = consumer ∷ [];
  pending = pending.nothing_pending;
  shares = shares_with kind ranges consumer no_shares;
  letters = letters.none_dead;
}

abbrev pub joined_by : Kind → Option (List HashRange) → ℕ → Placed → Placed
joined_by kind ranges consumer p = record p { kind = kind; shares = shares_with kind ranges consumer p.shares; line = p.line ++ consumer ∷ [] }

abbrev pub left_by : ℕ → Placed → Placed
left_by consumer p = record p { shares = shares_without consumer p.shares; line = filter (λ n. not (n == consumer)) p.line }

-- a further consumer keeps the policy of those that have shares, if anybody has
abbrev pub KeepsPolicy : Option (List HashRange) → Shares → Type 0
KeepsPolicy ranges shares = (shares ≡ no_shares) ⊎ ((shares.sticky ≡ is_some ranges) × AreShares shares)

-- the consumer is out again who joined with no share, and the kind is as it was
abbrev pub UndoesJoin : Kind → ℕ → Placed → Placed → Type 0
UndoesJoin kind consumer joined q =
    (taken : Kind) (ranges : Option (List HashRange)) (p : Placed) → joined ≡ joined_by taken ranges consumer p → p.kind ≡ kind
    → KeepsPolicy ranges p.shares → list_any (is_share_of consumer) p.shares.blocks ≡ false → q ≡ p

abbrev pub acknowledged_at : ℕ → Position → Placed → Placed
acknowledged_at place position p = record p {
  places = set.insert p.places place;
  buried = set.remove p.buried place;
  pending = pending.without position p.pending;
}

abbrev pub holding_at : Position → Held → Placed → Placed
holding_at position held p = record p { pending = pending.holding position held p.pending }

abbrev pub due_again_at : Position → ℕ → Placed → Placed
due_again_at position due p = record p { pending = pending.due_again position due p.pending }

abbrev pub released_at : Position → Placed → Placed
released_at position p = record p { pending = pending.released position p.pending }

abbrev pub redelivered_at : Position → Placed → Placed
redelivered_at position p = record p { pending = pending.released position (pending.redelivered position p.pending) }

abbrev pub buried_at : ℕ → DeadLetter → Placed → Placed
buried_at place letter p = record p {
  buried = set.insert p.buried place;
  pending = pending.without letter.position p.pending;
  letters = letters.ending_with letter p.letters;
}

-- the first letter is gone, and its message, which stands at the place, is acknowledged
abbrev pub moved_from : ℕ → Position → Placed → Placed
moved_from place position p = record (acknowledged_at place position p) { letters = letters.without_first p.letters }

abbrev pub all_safe_in : Placed → Placed
all_safe_in p = record p { letters = letters.all_safe p.letters }

abbrev pub safe_below_in : ℕ → Placed → Placed
safe_below_in ordinal p = record p { letters = letters.safe_below ordinal p.letters }

-- so many messages are acknowledged, and of the others those are dead that stand at the places
abbrev pub sought_to : ℕ → List ℕ → Placed → Placed
sought_to end dead p = record p {
  places = below end;
  buried = set.from_list (filter (λ place. nat_le end place) dead);
  pending = pending.nothing_pending;
}

-- the first messages are gone, so many, and the others stand as much lower
abbrev pub trimmed_to : ℕ → Placed → Placed
trimmed_to count p = record p { places = lowered count p.places; buried = lowered count p.buried }
