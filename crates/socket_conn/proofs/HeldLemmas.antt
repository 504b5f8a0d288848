-- Bytes that go out before others.
use Rattle.std.proofs.Common.{◌≡◌, ◌≤◌, ◌+◌, ◌-◌, ◌++◌, ◌∙◌, [], ℕ, List, length, drop, take, Option, None, Some, Result, Ok, Err, sym, ap, subst, append_assoc}
use Rattle.std.specs.Io.KnownBytes.{Appends, Keeps, WriteAppends, append_known}
use Rattle.tungstenite.proofs.SocketLemmas.{take-drop-whole, drop-drop, drop-past}
use Rattle.std.proofs.lemmas.List.{append-nil, length-drop}
use Rattle.std.proofs.Math.Seq.{take-length}

-- what went of the first bytes is no longer among those that wait
whole : (k : ℕ) (bs : List ℕ) → take (length bs - k) (drop k bs) ≡ drop k bs
whole k bs = subst (λ m. take m (drop k bs) ≡ drop k bs) (length-drop k bs) (take-length (drop k bs))

pub goes : (a b : Option (List ℕ)) (bs : List ℕ) (k n : ℕ) → Appends a b (take n (take (length bs - k) (drop k bs)))
    → Keeps (append_known a (drop k bs)) (append_known b (drop (k + n) bs))
goes None b bs k n p = tt
goes (Some x) None bs k n p = absurd p
goes (Some x) (Some y) bs k n p =
    ap (λ l. l ++ drop (k + n) bs) p ∙ append_assoc x _ (drop (k + n) bs)
    ∙ ap (λ l. x ++ (take n l ++ drop (k + n) bs)) (whole k bs)
    ∙ ap (λ l. x ++ (take n (drop k bs) ++ l)) (sym (drop-drop k n bs))
    ∙ ap (λ l. x ++ l) (sym (take-drop-whole n (drop k bs)))

-- once the first bytes are gone, what is written comes behind them
pub follows : {E : Type 0} (o m w : Option (List ℕ)) (d e buf : List ℕ) (r : Result ℕ E) → e ≡ []
    → Keeps (append_known o d) (append_known m e) → WriteAppends m w r buf
    → WriteAppends (append_known o d) (append_known w e) r buf
follows None m w d e buf (Ok n) z k h = tt
follows None m w d e buf (Err x) z k h = tt
follows (Some x) None w d e buf r z k h = absurd k
follows (Some x) (Some y) None d e buf (Ok n) z k h = absurd h
follows (Some x) (Some y) None d e buf (Err i) z k h = absurd h
follows (Some x) (Some y) (Some v) d e buf (Ok n) z k h =
    ap (λ l. v ++ l) z ∙ append-nil v ∙ h ∙ ap (λ l. l ++ take n buf) (sym (append-nil y) ∙ ap (λ l. y ++ l) (sym z) ∙ k)
follows (Some x) (Some y) (Some v) d e buf (Err i) z k h = ap (λ l. l ++ e) h ∙ k

pub none : (k : ℕ) (bs : List ℕ) → length bs ≤ k → drop k bs ≡ []
none k bs h = drop-past k bs h
