-- A deletion writes what is left of one topic, alone; and what stands of the others then.
use Rattle.std.proofs.Common.{◌≡◌, ◌≢◌, ◌⊎◌, map, ℕ, Bool, true, false, not, List, [], ◌∷◌, refl, ap, subst, arith}
use Rattle.std.specs.Prelude.{All, IsTrue, ◌&&◌, filter}
use Rattle.std.specs.Str.{bytes_eq}
use Rattle.std.proofs.lemmas.Slice.Eq.{bytes_eq-Decides}
use Rattle.std.proofs.lemmas.List.Elements.{All-cons, All-nil, filter_passes}
use Rattle.position_core.specs.Name.{is_name}
use Rattle.position_core.specs.TopicName.{same_topic, topic_text}
use Rattle.position_core.specs.declared.topic_name.TopicName.{TopicName}
use Rattle.value_texts.proofs.TopicNames.{one_topic}
use Rattle.sqlite_trees.specs.declared.store.Store.{Ghosts}
use Rattle.sqlite.specs.Tree.{Trees}
use Rattle.sqlite.specs.State.{HasCleanDisk, Survives}
use Rattle.sqlite.specs.Held.{Held, state}
use Rattle.delivery_machine.specs.Places.{KeptTopic}
use Rattle.row_forms.specs.Standing.{KeepsOthers, Stands}
use Rattle.row_tables.specs.Goes.{Saves}
use Rattle.row_tables.specs.Ready.{IsReady}
use Rattle.row_rounds.specs.declared.saving.Write.{Write}
use Rattle.row_rounds.specs.Rounds.{AreApart, Fits, IsNamed, Rounds, StandAll}
use Rattle.row_store.specs.Keeping.{IsKept, StoresAll}
use Rattle.row_store.proofs.Standing.{same_stands, stores_all}
use Rattle.row_store.proofs.Storing.{leaves, left_from, went}

-- a write is alone
module _ (w : Write) where
  pub alone_named : IsNamed w → All IsNamed (w ∷ [])
  alone_named named = All-cons IsNamed w [] named (All-nil IsNamed)

  pub alone_apart : AreApart (w ∷ [])
  alone_apart i j d below within = absurd (omega (arith, below, within))

  pub alone_fits : ((db : Trees) → Fits db w) → (known : List KeptTopic) (db : Trees) → All (λ (kept : KeptTopic). Stands kept db) known → All (Fits db) (w ∷ [])
  alone_fits fits known db all = All-cons (Fits db) w [] (fits db) (All-nil (Fits db))

-- what a store of one write leads to
module _ {S : Type 0} (g : Ghosts S) (old new : Held S) (failed : Bool) (known : List KeptTopic) (w : Write)
    (kept : IsKept g old failed known) (working : failed ≡ false) (fits : (db : Trees) → Fits db w) (writes : List Write) (one : writes ≡ w ∷ [])
    (survives : Survives (state g old) (state g new) (λ db. IsTrue (state g old).is_open × (IsReady (state g old).now → Rounds writes (state g old).now.trees db))) where
  pub one_went : Saves (Rounds writes) (state g old) (state g new) → HasCleanDisk (state g new) → IsReady (state g new).now × StandAll (w ∷ []) (state g old).now.trees (state g new).now.trees
  one_went saves = went g old new failed known (w ∷ []) kept working (alone_fits w fits known) survives.clean (subst (λ (ws : List Write). Saves (Rounds ws) (state g old) (state g new)) one saves)

  -- it makes this of its topic
  module _ (left : KeptTopic) (same : w.snapshot ≡ left) where
    lefts : map (λ (v : Write). v.snapshot) (w ∷ []) ≡ left ∷ []
    lefts = ap (λ (k : KeptTopic). k ∷ []) same

    pub one_stores : Saves (Rounds writes) (state g old) (state g new) → HasCleanDisk (state g new) → StoresAll (left ∷ []) (state g old).now.trees (state g new).now.trees
    one_stores saves clean = stores_all (w ∷ []) (left ∷ []) (state g old).now.trees (state g new).now.trees lefts (one_went saves clean).1

    -- and a crash leaves that, or what stood before
    pub one_leaves : Survives (state g old) (state g new) (λ db. IsTrue (state g old).is_open × StoresAll (left ∷ []) (state g old).now.trees db)
    one_leaves =
        leaves g old new failed known (w ∷ []) kept working (alone_fits w fits known) survives.clean (left ∷ []) lefts
        (subst (λ (ws : List Write). Survives (state g old) (state g new) (λ db. IsTrue (state g old).is_open × (IsReady (state g old).now → Rounds ws (state g old).now.trees db))) one survives)

    pub one_or_before : IsTrue (state g old).is_open → HasCleanDisk (state g new) → (db : Trees) → (state g new).may_leave db → (db ≡ (state g old).now.trees) ⊎ StoresAll (left ∷ []) (state g old).now.trees db
    one_or_before shown = left_from (state g old) (state g new) (left ∷ []) (λ early. kept.settled working early shown) one_leaves shown

-- what stood of the other topics stands
pub others_stand : (topic : List ℕ) (old new : Trees) (known : List KeptTopic) → KeepsOthers (topic ∷ []) old new → All (λ (kept : KeptTopic). topic_text kept.name ≢ topic) known
    → All (λ (kept : KeptTopic). Stands kept old) known → All (λ (kept : KeptTopic). Stands kept new) known
others_stand topic old new known keeps apart all n d lt = same_stands _ old new (keeps _ (apart n d lt, tt)) (all n d lt)

-- ---- names and their texts

both_true : (a b : Bool) → (a && b) ≡ true → (a ≡ true) × (b ≡ true)
both_true true b h = (refl, h)
both_true false b h = absurd cc

same_parts : (s t : TopicName) → same_topic s t ≡ true → topic_text s ≡ topic_text t
same_parts s t h =
    let all = both_true _ _ h in
    let two = both_true _ _ all.0 in
    let tenant = (bytes_eq-Decides s.tenant t.tenant).0 two.0 in
    let namespace = (bytes_eq-Decides s.namespace t.namespace).0 two.1 in
    let topic = (bytes_eq-Decides s.topic t.topic).0 all.1 in
    λ i. topic_text (record { tenant = tenant i; namespace = namespace i; topic = topic i })

same_itself : (t : TopicName) → same_topic t t ≡ true
same_itself t = rw ((bytes_eq-Decides t.tenant t.tenant).1 refl, (bytes_eq-Decides t.namespace t.namespace).1 refl, (bytes_eq-Decides t.topic t.topic).1 refl) refl

-- names are of one topic exactly where their texts are the same
pub texts_tell : (s t : TopicName) → IsTrue (is_name s.tenant) → IsTrue (is_name s.namespace) → IsTrue (is_name t.tenant) → IsTrue (is_name t.namespace) → same_topic s t ≡ bytes_eq (topic_text s) (topic_text t)
texts_tell s t a b c d = by (same_topic s t) (bytes_eq (topic_text s) (topic_text t)) refl refl
  where
    by : (p q : Bool) → same_topic s t ≡ p → bytes_eq (topic_text s) (topic_text t) ≡ q → p ≡ q
    by true true same text = refl
    by false false same text = refl
    by true false same text = absurd (cc (text, (bytes_eq-Decides (topic_text s) (topic_text t)).1 (same_parts s t same)))
    by false true same text =
        let one = one_topic s t a b c d ((bytes_eq-Decides (topic_text s) (topic_text t)).0 text) in
        absurd (cc (same, subst (λ (u : TopicName). same_topic s u ≡ true) one (same_itself s)))

-- those whose text passes as another are of no topic with this text
pub texts_apart : (topic : List ℕ) (known : List KeptTopic) → All (λ (kept : KeptTopic). topic_text kept.name ≢ topic) (filter (λ (kept : KeptTopic). not (bytes_eq (topic_text kept.name) topic)) known)
texts_apart topic known n d lt same =
    let p : KeptTopic → Bool = λ kept. not (bytes_eq (topic_text kept.name) topic) in
    let away = filter_passes p known n d lt in
    absurd (cc (away, (bytes_eq-Decides _ topic).1 same))
