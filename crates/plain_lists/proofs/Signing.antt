-- Authors are remembered one message at a time.
use Rattle.std.proofs.Common.{◌≡◌, ℕ, ◌+◌, ◌<◌, List, [], ◌∷◌, ◌++◌, take, get_or, length, ap, ◌∙◌, sym, arith, length-take}
use Rattle.std.proofs.lemmas.List.{take_more}
use Rattle.position_core.specs.declared.message.Entry.{Entry}
use Rattle.delivery_machine.specs.State.{Author}
use Rattle.delivery_machine.specs.Trimming.{with_author, with_authors}

push : (index : ℕ) (log : List Entry) (e : Entry) (authors : List Author) → with_authors index (log ++ e ∷ []) authors ≡ with_author (index + length log) e (with_authors index log authors)
push index [] e authors = ap (λ n. with_author n e authors) (omega arith)
push index (x ∷ log) e authors =
    push (index + 1) log e (with_author index x authors)
    ∙ ap (λ n. with_author n e (with_authors (index + 1) log (with_author index x authors))) (omega arith)

pub authors_step : (index : ℕ) (log : List Entry) (i : ℕ) (e : Entry) (authors : List Author) → i < length log → e ≡ get_or log i e
    → with_author (index + i) e (with_authors index (take i log) authors) ≡ with_authors index (take (i + 1) log) authors
authors_step index log i e authors low is =
    let long : length (take i log) ≡ i = let taken = length-take i log in omega (arith, taken, low) in
    sym (
    ap (λ es. with_authors index es authors) (take_more log i e low ∙ ap (λ x. take i log ++ x ∷ []) (sym is))
    ∙ push index (take i log) e authors
    ∙ ap (λ n. with_author (index + n) e (with_authors index (take i log) authors)) long
    )
