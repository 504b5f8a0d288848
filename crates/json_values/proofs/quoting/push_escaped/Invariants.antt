use Rattle.std.proofs.Common.{◌≡◌, ◌≤◌, ◌+◌, ◌++◌, length, string_bytes, string_capacity, string_len}
use denote.Shadow.{shadow}
use denote.Text.{Utf8}
use Rattle.json.specs.Print.{escape}
use Rattle.json_values.proofs.quoting.push_escaped.Given as goal

abbrev pub invariant-loop-run : goal.invariant-loop-run
invariant-loop-run l = record {
  text : shadow (Utf8 l.rest);
  written : string_bytes l.out ++ escape l.rest ≡ string_bytes l.initial.out ++ escape l.initial.rest;
  grown : string_capacity l.initial.out ≤ string_capacity l.out;
  left : string_len l.out + length (escape l.rest) ≡ string_len l.initial.out + length (escape l.initial.rest);
}

abbrev pub decreases-loop-run : goal.decreases-loop-run
decreases-loop-run l = length l.rest
