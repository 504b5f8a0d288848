use Rattle.std.proofs.Common.{◌≡◌, ℕ, ◌+◌, ◌≤◌, ◌<◌, false, List, [], ◌∷◌, ◌++◌, map, take, refl, ap, sym, subst, subst₂, ◌∙◌, arith, true≢false}
use Rattle.std.specs.Prelude.{◌≤ℤ◌, pos}
use Rattle.std.specs.List.{IsDistinct, list_any}
use Rattle.std.specs.Str.{bytes_eq}
use Rattle.std.proofs.lemmas.List.Elements.{All-nil, All-push}
use Rattle.std.proofs.lemmas.List.{take_all}
use Rattle.delivery_machine.specs.State.{Author}
use Rattle.delivery_machine.specs.WellFormed.{AreGiven}
use Rattle.delivery_machine.proofs.Given.{none_given}
use Rattle.row_forms.specs.Forms.{author_rows}
use Rattle.row_reading.specs.Reading.{IsAuthorAt, RememberFromZero, put}
use Rattle.row_reading.proofs.Authors.{same_authors}
use Rattle.row_reading.proofs.AuthorsRead.{HasLeast, authors_more, given_more, index_of, least_more, name_of, names_more, next_author, no_least, shown_author}
use Rattle.row_reading.proofs.author_rows.put_authors.Goals as goal

no_names : IsDistinct bytes_eq []
unfolding IsDistinct
no_names = tt

pub rows-init : goal.rows-init
rows-init c =
    let none : c.args.authors.now.items ≡ [] = c.requires in
    record {
      rows = λ topic. rw none refl;
      names = subst (λ (xs : List Author). IsDistinct bytes_eq (map name_of xs)) (sym none) no_names;
      given = subst (λ (xs : List Author). AreGiven 0 (map index_of xs)) (sym none) (none_given 0);
      low = omega arith;
      from_zero = subst RememberFromZero (sym none) (All-nil _);
      least_below = subst (λ xs. HasLeast 0 xs) (sym none) no_least;
    }

pub rows-preserved : goal.rows-preserved
rows-preserved c =
    let h = c.rows.invariant in
    let was : List Author = c.rows.authors.items in
    let a : Author = c.in-Some.author in
    let shown : IsAuthorAt c.row-item.result a = rw c.in-Some.is at c.in_ok-author.ensures.shown in
    let from_zero = rw c.in-Some.is at c.in_ok-author.ensures.from_zero in
    let above : c.rows.least ≤ a.index = rw c.in-Some.is at c.in_ok-author.ensures.least in
    let below : a.index < c.args.gone = rw c.in-Some.is at c.in_ok-author.ensures.below in
    let index : c.author.inside.index ≡ a.index = ap index_of c.author.view_is in
    let name : c.author.inside.name ≡ a.name = ap name_of c.author.view_is in
    let pushed : c.push.new.self.items ≡ was ++ a ∷ [] = c.in_ok-push.ensures.items in
    let new : list_any (λ (x : Author). bytes_eq x.name a.name) was ≡ false =
    ap (λ m. list_any (λ (x : Author). bytes_eq x.name m) was) (sym name) ∙ ap (λ (l : List Author). list_any (λ (x : Author). bytes_eq x.name c.author.inside.name) l) (sym c.deref.ensures.value) ∙ sym c.is_known.ensures ∙ c.if-is_known.false in
    record {
      rows = λ topic. subst (λ xs. put topic (take (c.rows.row-index + 1) c.args.rows.now) ≡ author_rows topic xs) (sym pushed)
          (authors_more topic c.args.rows.now c.rows.row-index c.row-item.result was a c.rows-test.true c.row-item.is (h.rows topic) shown);
      names = subst (λ (xs : List Author). IsDistinct bytes_eq (map name_of xs)) (sym pushed) (names_more was a h.names new);
      given = subst₂ (λ (n : ℕ) (xs : List Author). AreGiven (n + 1) (map index_of xs)) (sym index) (sym pushed) (given_more c.rows.least was a above h.given);
      low = omega (arith, index, below);
      from_zero = subst RememberFromZero (sym pushed) (All-push (λ (x : Author). pos 0 ≤ℤ x.sequence) was a h.from_zero from_zero);
      least_below = subst₂ (λ (n : ℕ) (xs : List Author). HasLeast (n + 1) xs) (sym index) (sym pushed) (least_more was a);
    }

pub returns-in_default-clause-all_read : goal.returns-in_default-clause-all_read
returns-in_default-clause-all_read c =
    λ topic all show.
    let h = c.rows.invariant in
    let n = next_author c.args.gone c.rows.least topic c.args.rows.now c.rows.row-index c.row-item.result c.rows.authors.items all h.least_below show c.rows-test.true c.row-item.is (h.rows topic) in
    let none = rw c.in_default.is at c.in_ok-author.ensures.all_read in
    absurd (none n.0 n.1.readable n.1.shown n.1.above n.1.below)

pub returns-then-is_known-clause-all_read : goal.returns-then-is_known-clause-all_read
returns-then-is_known-clause-all_read c =
    λ topic all show.
    let h = c.rows.invariant in
    let was : List Author = c.rows.authors.items in
    let n = next_author c.args.gone c.rows.least topic c.args.rows.now c.rows.row-index c.row-item.result was all h.least_below show c.rows-test.true c.row-item.is (h.rows topic) in
    let shown : IsAuthorAt c.row-item.result c.in-Some.author = rw c.in-Some.is at c.in_ok-author.ensures.shown in
    let name : c.author.inside.name ≡ n.0.name = ap name_of c.author.view_is ∙ ap name_of (shown_author c.row-item.result c.in-Some.author n.0 shown n.1.shown) in
    absurd (true≢false (sym c.if-is_known.true ∙ c.is_known.ensures ∙ ap (λ (l : List Author). list_any (λ (x : Author). bytes_eq x.name c.author.inside.name) l) c.deref.ensures.value ∙ ap (λ m. list_any (λ (x : Author). bytes_eq x.name m) was) name ∙ n.1.new))

pub returns-clause-all_read : goal.returns-clause-all_read
returns-clause-all_read c =
    λ topic all show.
    let whole : put topic c.args.rows.now ≡ author_rows topic c.rows.authors.items = ap (put topic) (sym (take_all c.rows.row-index c.args.rows.now c.rows-test.false)) ∙ c.rows.invariant.rows topic in
    (refl, same_authors topic c.rows.authors.items all (sym whole ∙ show.shown))
