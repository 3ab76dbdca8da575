use Rattle.std.proofs.Common.{rules, SomeIff, OkIff, ◌≡◌, ◌≢◌, ◌==◌, ℕ, Bool, false, true, List, Option, Result, Ok, Err, get_or, slice_index, arith}
use Rattle.std.proofs.lemmas.Bool.Decides.{nat_tests}
use Rattle.std.proofs.lemmas.Str.Parse.{IsNumeralModel, numerals_by_value, tells_all_ascii_digits, parse_plain}
use Rattle.std.specs.Result.{result_ok}
use Rattle.std.specs.Str.{all_ascii_digits}
use Rattle.std.specs.Str.Parse.{digits_value}
use Rattle.cron_walk_listing.proofs.arguments.count_of.Goals as goal

digits : IsNumeralModel (λ ds. all_ascii_digits ds ≡ true) (digits_value 10)
digits = numerals_by_value _ tells_all_ascii_digits

no_plus : (bs : List ℕ) (starts : Bool) → starts ≡ (slice_index bs 0 == 43) → starts ≡ false → get_or bs 0 0 ≢ 43
no_plus bs starts h f e = grind (arith, nat_tests)

kept : {E : Type 0} (r : Result ℕ E) (o : Option ℕ) (P : Type 0) (v : ℕ) → o ≡ result_ok r → OkIff r P v → SomeIff o P v
kept (Ok x) o P v e h = rw e h
kept (Err x) o P v e h = rw e h

pub returns : goal.returns
returns c =
    kept c.parse.result c.ok.result _ _ c.ok.ensures.value (parse_plain digits 32 c.args.argument.now c.parse.result c.parse.ensures.value.0
    (no_plus c.args.argument.now c.starts_with.result (search rules) c.if-starts_with.false))

pub returns-then-starts_with : goal.returns-then-starts_with
returns-then-starts_with c = search rules
