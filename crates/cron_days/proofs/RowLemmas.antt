-- What a search that jumps over rows of days has passed.
use Rattle.std.proofs.Common.{◌≡◌, ℕ, ◌+◌, ◌-◌, ◌<◌, ◌≤◌, ℤ, nat_lt, Bool, true, false, ◌&&◌, List, length, take, get_or, Option, Some, None, MatchOption, refl, sym, ap, ◌∙◌, inl, inr, arith}
use Rattle.std.specs.List.{list_all}
use Rattle.std.proofs.lemmas.Bool.{cases_lt, lt-ltb}
use Rattle.std.proofs.lemmas.List.{take_all}
use Rattle.std.proofs.lemmas.List.Folds.{list_all_more}
use Rattle.jiff_core.proofs.SignedLemmas.{signed_arith}
use Rattle.cron_units.specs.declared.way.Way.{Way}
use Rattle.cron_units.specs.declared.way.Way.TheVariants.{Ahead, Back}
use Rattle.cron_units.specs.Nearest.{IsNearest, IsNearestAt, LiesFrom, Precedes}
use Rattle.cron_moments.specs.Civil.{days_in_range}
use Rattle.cron_days.specs.declared.row.Row.{Row}
use Rattle.cron_days.specs.Days.{IsRow, end_of, is_day, is_each_day}

-- ---- rows

-- a row of one test is a row of another that says the same
pub row_of_same : (d e : ℕ → Bool) (day : ℕ) (row : Row) → ((n : ℕ) → e n ≡ d n) → IsRow d day row → IsRow e day row
row_of_same d e day row same is = record {
  from = is.from;
  to = is.to;
  in_range = is.in_range;
  alike = λ k low high. same k ∙ is.alike k low high;
}

module _ {D : Type 0} (allows : D → ℕ → Bool) (rules : List D) where
  -- the days that the first i rules all allow
  abbrev pub first_rules : ℕ → ℕ → Bool
  first_rules i n = list_all (λ rule. allows rule n) (take i rules)

  pub rows-more : (i : ℕ) (rule : D) (day : ℕ) (row : Row) → i < length rules → rule ≡ get_or rules i rule → IsRow (λ n. first_rules i n && allows rule n) day row
      → IsRow (first_rules (i + 1)) day row
  rows-more i rule day row less is found =
      row_of_same (λ n. first_rules i n && allows rule n) (first_rules (i + 1)) day row
      (λ n. list_all_more (λ r. allows r n) rules i rule less ∙ ap (λ r. first_rules i n && allows r n) (sym is)) found

  pub rows-end : (i : ℕ) (day : ℕ) (row : Row) → i ≡ length rules → IsRow (first_rules i) day row → IsRow (λ n. list_all (λ rule. allows rule n) rules) day row
  rows-end i day row e found =
      row_of_same (first_rules i) (λ n. list_all (λ rule. allows rule n) rules) day row
      (λ n. ap (λ l. list_all (λ r. allows r n) l) (sym (ap (λ k. take k rules) e ∙ take_all (length rules) rules (omega arith)))) found

-- ---- a search

-- the day is in the range, and none from the start to it is allowed
pub record IsReachedAt (way : Way) (d : ℕ → Bool) (start : ℤ) (n : ℕ) : Type 0 where
  pub passes : is_each_day n ≡ true
  pub lies : LiesFrom way start n
  pub before : (k : ℕ) → LiesFrom way start k → Precedes way k n → is_day d k ≡ false

-- or no day from the start on is allowed
abbrev pub IsReached : Way → (ℕ → Bool) → ℤ → Option ℕ → Type 0
IsReached way d start next = MatchOption next ((k : ℕ) → LiesFrom way start k → is_day d k ≡ false) (IsReachedAt way d start)

-- how many days are left to go through
abbrev pub left_to_pass : Way → Option ℕ → ℕ
left_to_pass way None = 0
left_to_pass Ahead (Some n) = days_in_range - n
left_to_pass Back (Some n) = n + 1

both_tests : (a b : Bool) → a ≡ true → b ≡ true → (a && b) ≡ true
both_tests a b h g = rw (h, g) refl

fails_second : (a b : Bool) → b ≡ false → (a && b) ≡ false
fails_second true b h = h
fails_second false b h = refl

fails_first : (a b : Bool) → (a && true) ≡ false → (a && b) ≡ false
fails_first true b h = cc
fails_first false b h = refl

-- a day comes before one of a row, lies in the row from there on, or comes past the row
by_row : (way : Way) (d : ℕ → Bool) (n k : ℕ) (row : Row) (b : Bool) → IsRow d n row → (Precedes way k n → b ≡ false) → (row.first ≤ k → k ≤ row.last → b ≡ false)
    → (LiesFrom way (end_of way row) k → b ≡ false) → b ≡ false
by_row Ahead d n k row b is early within late = elim (cases_lt k n) [
  | inl less ↦ early less
  | inr ge ↦ elim (cases_lt row.last k) [
    | inl past ↦ late (omega (arith, signed_arith))
    | inr le ↦ let low = is.from in within (omega arith) le
  ]
]
by_row Back d n k row b is early within late = elim (cases_lt n k) [
  | inl less ↦ early less
  | inr ge ↦ elim (cases_lt k row.first) [
    | inl past ↦ late (omega (arith, signed_arith))
    | inr le ↦ let high = is.to in within le (omega arith)
  ]
]

past_from : (way : Way) (d : ℕ → Bool) (start : ℤ) (n k : ℕ) (row : Row) → IsRow d n row → LiesFrom way start n → LiesFrom way (end_of way row) k → LiesFrom way start k
past_from Ahead d start n k row is lies past = let high = is.to in omega (arith, signed_arith)
past_from Back d start n k row is lies past = let low = is.from in omega (arith, signed_arith)

module _ (way : Way) (d : ℕ → Bool) (start : ℤ) where
  pub reached-first : (next : Option ℕ) → IsNearest way is_each_day start next → IsReached way d start next
  reached-first None none = λ k lies. fails_first (nat_lt k days_in_range) (d k) (none k lies)
  reached-first (Some n) found = record {
    passes = found.passes;
    lies = found.lies;
    before = λ k lies past. fails_first (nat_lt k days_in_range) (d k) (found.nearest k lies past);
  }

  pub reached-end : (n : ℕ) (row : Row) → n < days_in_range → IsReachedAt way d start n → IsRow d n row → row.allowed ≡ true → IsNearestAt way (is_day d) start n
  reached-end n row high reached is has = record {
    passes = both_tests (nat_lt n days_in_range) (d n) (lt-ltb n days_in_range high) (is.alike n is.from is.to ∙ has);
    lies = reached.lies;
    nearest = reached.before;
  }

  between : (n k : ℕ) (row : Row) → IsReachedAt way d start n → IsRow d n row → row.allowed ≡ false → LiesFrom way start k
      → (LiesFrom way (end_of way row) k → is_day d k ≡ false) → is_day d k ≡ false
  between n k row reached is has lies more =
      by_row way d n k row (is_day d k) is (reached.before k lies)
      (λ low high. fails_second (nat_lt k days_in_range) (d k) (is.alike k low high ∙ has)) more

  pub reached-next : (n : ℕ) (row : Row) (next : Option ℕ) → IsReachedAt way d start n → IsRow d n row → row.allowed ≡ false → IsNearest way is_each_day (end_of way row) next
      → IsReached way d start next
  reached-next n row None reached is has none =
      λ k lies. between n k row reached is has lies (λ past. fails_first (nat_lt k days_in_range) (d k) (none k past))
  reached-next n row (Some m) reached is has near = record {
    passes = near.passes;
    lies = past_from way d start n m row is reached.lies near.lies;
    before = λ k lies past. between n k row reached is has lies (λ on. fails_first (nat_lt k days_in_range) (d k) (near.nearest k on past));
  }

pub less : (way : Way) (d : ℕ → Bool) (n : ℕ) (row : Row) (next : Option ℕ) → n < days_in_range → IsRow d n row → IsNearest way is_each_day (end_of way row) next
    → left_to_pass way next < left_to_pass way (Some n)
less Ahead d n row None high is none = omega arith
less Back d n row None high is none = omega arith
less Ahead d n row (Some m) high is near = let lies = near.lies in let to = is.to in omega (arith, signed_arith)
less Back d n row (Some m) high is near = let lies = near.lies in let from = is.from in omega (arith, signed_arith)
