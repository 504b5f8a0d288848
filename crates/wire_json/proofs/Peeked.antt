-- Deliveries that are listed one after the other, as many as fit.
use Rattle.std.proofs.Common.{◌≡◌, ℕ, ◌<◌, ◌≤◌, List, [], ◌∷◌, ◌++◌, length, Bool, true, false, flat_map, arith, refl, sym, ap, subst, ◌∙◌, append_assoc, append-nil}
use Rattle.std.specs.Prelude.{codes, if◌then◌else◌}
use Rattle.std.proofs.lemmas.Bool.{leb-false, leb-true}
use Rattle.std.proofs.lemmas.Grind.{flat_map-append}
use Rattle.delivery_machine.specs.declared.delivery.Delivery.{Delivery}
use Rattle.wire_json.specs.Peeks.{Appends, AreShown, BeginsPeek, IsPeek, IsShown, begun, ending, fits, listed, messages_text, most_text}

abbrev pub none_in : {A : Type 0} → List A → Bool
none_in [] = true
none_in (x ∷ xs) = false

pub none_after_one : {A : Type 0} (xs : List A) (x : A) → false ≡ none_in (xs ++ x ∷ [])
none_after_one [] x = refl
none_after_one (y ∷ ys) x = refl

same_none : (ds : List Delivery) (texts : List (List ℕ)) → AreShown ds texts → none_in ds ≡ none_in texts
same_none [] [] are = refl
same_none (d ∷ ds) (text ∷ texts) are = refl
same_none [] (text ∷ texts) are = absurd are
same_none (d ∷ ds) [] are = absurd are

one_more : (ds : List Delivery) (texts : List (List ℕ)) (d : Delivery) (text : List ℕ) → AreShown ds texts → IsShown d text → AreShown (ds ++ d ∷ []) (texts ++ text ∷ [])
one_more [] [] d text are one = (one, tt)
one_more (e ∷ ds) (first ∷ texts) d text are one = (are.0, one_more ds texts d text are.1 one)
one_more [] (first ∷ texts) d text are one = absurd are
one_more (e ∷ ds) [] d text are one = absurd are

abbrev after_comma : List ℕ → List ℕ
after_comma text = codes "," ++ text

one_listed : (texts : List (List ℕ)) (text : List ℕ) (is_first : Bool) → is_first ≡ none_in texts → listed (texts ++ text ∷ []) ≡ listed texts ++ ((if is_first then [] else codes ",") ++ text)
one_listed [] text is_first is = rw (is, append-nil) refl
one_listed (first ∷ others) text is_first is =
    rw (is, flat_map-append after_comma others (text ∷ []), append-nil (after_comma text)) (sym (append_assoc first (flat_map after_comma others) (after_comma text)))

one_begun : (texts : List (List ℕ)) (text before : List ℕ) (is_first : Bool) → is_first ≡ none_in texts → before ≡ begun texts → begun (texts ++ text ∷ []) ≡ before ++ ((if is_first then [] else codes ",") ++ text)
one_begun texts text before is_first first is =
    let start = codes "{\"messages\":[" in
    ap (λ s. start ++ s) (one_listed texts text is_first first)
    ∙ (sym (append_assoc start (listed texts) ((if is_first then [] else codes ",") ++ text)) ∙ ap (λ s. s ++ ((if is_first then [] else codes ",") ++ text)) (sym is))

-- the whole with one more behind others
one_ended : (texts : List (List ℕ)) (text before : List ℕ) → false ≡ none_in texts → before ≡ begun texts → messages_text (texts ++ text ∷ []) ≡ before ++ codes "," ++ text ++ ending
one_ended texts text before some is = ap (λ s. s ++ ending) (one_begun texts text before false some is ∙ sym (append_assoc before (codes ",") text))

one_alone : {A : Type 0} (xs : List A) (x : A) → true ≡ none_in xs → 1 < length (xs ++ x ∷ []) → ⊥
one_alone [] x none above = omega (arith, above)
one_alone (y ∷ ys) x none above = cc

-- all that was gone over is shown
pub record AllShown (ds : List Delivery) (after : List ℕ) : Type 0 where
  pub texts : List (List ℕ)
  pub as_written : AreShown ds texts
  pub is : after ≡ begun texts
  pub within : 1 < length ds → length (messages_text texts) ≤ most_text

pub none_shown : (after : List ℕ) → after ≡ codes "{\"messages\":[" → AllShown [] after
none_shown after is = record { texts = []; as_written = tt; is = is ∙ sym (append-nil (codes "{\"messages\":[")); within = λ above. absurd (omega (arith, above)) }

one_within : (is_first : Bool) (ds : List Delivery) (texts : List (List ℕ)) (d : Delivery) (before text : List ℕ) → is_first ≡ none_in ds → AreShown ds texts → before ≡ begun texts → true ≡ fits is_first before text → 1 < length (ds ++ d ∷ []) → length (messages_text (texts ++ text ∷ [])) ≤ most_text
one_within true ds texts d before text first are is fit above = absurd (one_alone ds d first above)
one_within false ds texts d before text first are is fit above =
    subst (λ s. length s ≤ most_text) (sym (one_ended texts text before (first ∙ same_none ds texts are) is)) (leb-true _ _ (sym fit))

pub one_shown : (ds : List Delivery) (d : Delivery) (is_first : Bool) (before after : List ℕ) → is_first ≡ none_in ds → AllShown ds before → Appends true is_first d before after → AllShown (ds ++ d ∷ []) after
unfolding Appends
one_shown ds d is_first before after first was (text, one, fit, later) = record {
  texts = was.texts ++ text ∷ [];
  as_written = one_more ds was.texts d text was.as_written one;
  is = later ∙ sym (one_begun was.texts text before is_first (first ∙ same_none ds was.texts was.as_written) was.is);
  within = one_within is_first ds was.texts d before text first was.as_written was.is fit;
}

pub all_fit : (ds : List Delivery) (after : List ℕ) → AllShown ds after → BeginsPeek ds after
unfolding BeginsPeek
all_fit ds after was = (
  was.texts,
  record { shown = ds; rest = []; in_order = sym (append-nil ds); as_written = was.as_written; some = λ none. none; within = was.within; no_more = tt },
  was.is,
)

pub no_more_fit : (ds : List Delivery) (d : Delivery) (later : List Delivery) (is_first : Bool) (before after : List ℕ) → is_first ≡ none_in ds → AllShown ds before → Appends false is_first d before after → BeginsPeek (ds ++ d ∷ later) after
unfolding Appends BeginsPeek
no_more_fit ds d later true before after first was (text, one, fit, same) = absurd (cc)
no_more_fit ds d later false before after first was (text, one, fit, same) = (
  was.texts,
  record {
    shown = ds;
    rest = d ∷ later;
    in_order = refl;
    as_written = was.as_written;
    some = λ none. let no : false ≡ true = first ∙ ap none_in none in absurd (cc);
    within = was.within;
    no_more = (
      text,
      one,
      subst (λ s. most_text < length s) (sym (one_ended was.texts text before (first ∙ same_none ds was.texts was.as_written) was.is)) (leb-false _ _ (sym fit)),
    );
  },
  same ∙ (append-nil before ∙ was.is),
)

pub appended_one : (d : Delivery) (is_first : Bool) (before middle after text : List ℕ) → IsShown d text → true ≡ fits is_first before text → middle ≡ before ++ (if is_first then [] else codes ",") → after ≡ middle ++ text → Appends true is_first d before after
unfolding Appends
appended_one d is_first before middle after text one fit e f = (text, one, fit, f ∙ ap (λ s. s ++ text) e ∙ append_assoc before (if is_first then [] else codes ",") text)

pub appended_none : (d : Delivery) (is_first : Bool) (before text : List ℕ) → IsShown d text → false ≡ fits is_first before text → Appends false is_first d before before
unfolding Appends
appended_none d is_first before text one fit = (text, one, fit, sym (append-nil before))

pub peeked : (ds : List Delivery) (before after : List ℕ) → BeginsPeek ds before → after ≡ before ++ ending → IsPeek ds after
unfolding BeginsPeek IsPeek
peeked ds before after (texts, those, is) ends = (texts, those, ends ∙ ap (λ s. s ++ ending) is)
