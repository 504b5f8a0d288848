-- Members that change beside the subscriptions: their numbers, names and levels stay.
use Rattle.std.proofs.Common.{◌≡◌, ℕ, List, [], ◌∷◌, map, Bool, true, false, cond, get_or, refl, ap, ◌∙◌, sym, subst, ◌⊎◌, inl, inr}
use Rattle.std.specs.List.{filter}
use Rattle.std.specs.Str.{bytes_eq}
use Rattle.delivery_machine.specs.State.{State, Member}
use Rattle.delivery_machine.specs.Words.{changed, emptied, is_at, is_member}
use Rattle.delivery_machine.specs.Joining.{permitted}
use Rattle.delivery_machine.specs.Run.{Answers}
use Rattle.delivery_machine.specs.declared.event.Event.TheVariants.{Collect, Permit}
use Rattle.delivery_machine.specs.declared.reply.Reply.{Reply}
use Rattle.machine_laws.proofs.Ranks.{KeepsRanks, Rank, rank_of, ranks_changed}
use Rattle.delivery_machine.proofs.RunSteps.{split}
use Rattle.topic_served.specs.Told.{AreTold}
use Rattle.topic_served.proofs.Agreed.{told_kept}
use Rattle.topic_served.proofs.Quiet.{kept_members}
use Rattle.topic_members.specs.Joined.{Joined}
use Rattle.topic_subscriptions.specs.Placed.{line_at}
use Rattle.topic_parts.specs.Parts.{log_of}
use Rattle.topic_parts.proofs.Acknowledged.{placed_beside}
use Rattle.topic_served.specs.declared.served.Served.{Served}
use Rattle.topic_served.specs.Served.{IsBound, state_in}

-- the line hangs on them alone
line_of_ranks : (name : List ℕ) (ms : List Member) → line_at name ms ≡ map (λ (r : Rank). r.number) (filter (λ (r : Rank). bytes_eq r.name name) (map rank_of ms))
line_of_ranks name [] = refl
line_of_ranks name (m ∷ ms) = by (is_at name m) (line_of_ranks name ms)
  where
    rest : List Rank
    rest = filter (λ (r : Rank). bytes_eq r.name name) (map rank_of ms)

    by : (b : Bool) → line_at name ms ≡ map (λ (r : Rank). r.number) rest → map (λ (x : Member). x.number) (cond b (m ∷ filter (is_at name) ms) (filter (is_at name) ms)) ≡ map (λ (r : Rank). r.number) (cond b (rank_of m ∷ rest) rest)
    by true later = ap (λ (ns : List ℕ). m.number ∷ ns) later
    by false later = later

pub same_lines : (before after : List Member) → KeepsRanks before after → (name : List ℕ) → line_at name after ≡ line_at name before
same_lines before after ranks name =
    line_of_ranks name after ∙ ap (λ (rs : List Rank). map (λ (r : Rank). r.number) (filter (λ (r : Rank). bytes_eq r.name name) rs)) ranks ∙ sym (line_of_ranks name before)

pub bound_members : (c : Served) (ms : Joined) → ms.next ≡ c.parts.members.next → KeepsRanks c.parts.members.members ms.members → IsBound c → IsBound (record c { parts = record c.parts { members = ms } })
bound_members c ms next ranks bound = record {
  numbers = bound.numbers;
  tied = λ k d low. placed_beside (log_of c.parts) c.parts.members.members ms.members (get_or c.parts.subscriptions.items k d) (same_lines c.parts.members.members ms.members ranks (get_or c.parts.subscriptions.items k d).name) (bound.tied k d low);
  told =
      let s : State = state_in c in
      subst (λ (n : ℕ). AreTold c.dispatchers.items (record s { members = ms.members; next_consumer = n })) (sym next)
      (told_kept c.dispatchers.items s (record s { members = ms.members }) bound.told (kept_members s ms.members ranks));
}

-- the answer is about the members alone
pub answered_as : (s : State) (P : State → Type 0) (ms : Joined) → ms.next ≡ s.next_consumer → P (record s { members = ms.members }) → P (record s { members = ms.members; next_consumer = ms.next })
answered_as s P ms next holds = subst (λ (n : ℕ). P (record s { members = ms.members; next_consumer = n })) (sym next) holds

same_or : (before after now : List Member) → KeepsRanks before after → (now ≡ before) ⊎ (now ≡ after) → KeepsRanks before now
same_or before after now ranks (inl same) = ap (map rank_of) same
same_or before after now ranks (inr is) = ap (map rank_of) is ∙ ranks

pub ranks_permitted : (s : State) (consumer n : ℕ) (r : Reply) (ms : List Member) → Answers s (Permit consumer n) r (record s { members = ms }) → KeepsRanks s.members ms
ranks_permitted s consumer n r ms h = same_or s.members (changed (is_member consumer) (permitted n) s.members) ms (ranks_changed (is_member consumer) (permitted n) (λ _. refl) s.members) (elim (split s (Permit consumer n) r (record s { members = ms }) h) [
  | inl same ↦ inl (ap (λ (t : State). t.members) same)
  | inr taken ↦ inr (ap (λ (t : State). t.members) (second taken.1))
])
  where
    second : {A : Type 0} {t u : State} → A × (t ≡ u) → t ≡ u
    second both = both.1

pub ranks_collected : (s : State) (consumer : ℕ) (r : Reply) (ms : List Member) → Answers s (Collect consumer) r (record s { members = ms }) → KeepsRanks s.members ms
ranks_collected s consumer r ms h = same_or s.members (changed (is_member consumer) emptied s.members) ms (ranks_changed (is_member consumer) emptied (λ _. refl) s.members) (elim (split s (Collect consumer) r (record s { members = ms }) h) [
  | inl same ↦ inl (ap (λ (t : State). t.members) same)
  | inr taken ↦ inr (ap (λ (t : State). t.members) (second taken.1))
])
  where
    second : {A : Type 0} {t u : State} → A × (t ≡ u) → t ≡ u
    second both = both.1
