-- Which of two moments is taken.
use Rattle.std.specs.Prelude.{◌≡◌, Option, Some, None, ◌⊎◌}
use Rattle.plain_queries.specs.declared.due.Due.{Due}

-- the one is one of the two
abbrev pub IsEither : Option Due → Due → Due → Type 0
IsEither None next one = one ≡ next
IsEither (Some first) next one = (one ≡ first) ⊎ (one ≡ next)
