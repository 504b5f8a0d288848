-- How the tables agree with a topic.
use Rattle.std.specs.Prelude.{◌≡◌, ℕ, ◌-◌, ◌^◌, ◌≤◌, ◌<◌, Bool, true, ◌||◌, Option, Some, None, is_some, length}
use Rattle.std.specs.FinMap as map_of
use Rattle.position_core.specs.declared.kind.Kind.TheVariants.{KeyShared}
use Rattle.delivery_machine.specs.State.{State, Subscription}
use Rattle.delivery_machine.specs.Words.{visible}
use Rattle.dispatch_core.specs.Log.{waits_at, holder_at}
use Rattle.dispatch_core.specs.Changes.{OnlyChangesAt}
use Rattle.hash_rows.specs.Knowing.{Knows}
use Rattle.dispatch_keyed.specs.Hashes.{HasNoRoomyOwner}
use Rattle.dispatch_keyed.specs.Owning.{owners_in}
use Rattle.dispatch_keyed.specs.Tables.{row_at}
use Rattle.dispatch_keyed.specs.declared.keyed.Keyed.{Keyed}

pub record Agrees (d : Keyed) (s : State) (sub : Subscription) : Type 0 where
  pub kind : sub.kind ≡ KeyShared
  pub owners : d.owners ≡ owners_in s sub
  pub seen : d.read ≤ length (visible s)
  pub small : d.read ≤ 2 ^ 32 - 1
  pub unsent : (i : ℕ) → d.read ≤ i → d.sent ≤ i → holder_at s sub i ≡ None
  pub hashes : (h : ℕ) → h < 2 ^ 16 → Knows (row_at d.rows h) (map_of.get d.firsts.numbers h) h d.read s sub

-- where the hash has a message that could be sent, its owner has no room
abbrev pub IsStuck : Keyed → State → Subscription → ℕ → Type 0
IsStuck d s sub hash = (n : ℕ) → map_of.get d.firsts.numbers hash ≡ Some n → HasNoRoomyOwner s sub hash

-- at the index, which now waits or not and is pending at the holder, if there is one, and nowhere else the messages changed
pub record IsNews (d : Keyed) (index : ℕ) (wait : Bool) (held : Option ℕ) (s : State) (sub : Subscription) (t : State) (new : Subscription) : Type 0 where
  pub stays : OnlyChangesAt index s sub t new
  pub waits : waits_at t new index ≡ wait
  pub holder : holder_at t new index ≡ held
  -- a message that was neither comes to be neither
  pub was : (wait || is_some held) ≡ true → (waits_at s sub index || is_some (holder_at s sub index)) ≡ true
  pub unsent : d.read ≤ index → d.sent ≤ index → held ≡ None
