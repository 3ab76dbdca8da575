-- Which civil seconds a set has, and that they stand in the list of them.
use Rattle.std.proofs.Common.{◌≡◌, ℕ, ◌<◌, nat_lt, Bool, true, false, ◌&&◌, refl, arith}
use Rattle.cron_moments.specs.Civil.{seconds_in_range}
use Rattle.cron_time.specs.Seconds.{Seconds, is_match, matching_seconds, numbers_below}
use Rattle.cron_time.proofs.ListLemmas.{Among, among-below, among-filter, below-among, filter-among}

-- a number of the range, and a test of it
pub passes_in : (c : ℕ) (m : Bool) → c < seconds_in_range → m ≡ true → (nat_lt c seconds_in_range && m) ≡ true
passes_in c m range is = grind arith

pub passes_of : (c : ℕ) (m : Bool) → (nat_lt c seconds_in_range && m) ≡ true → m ≡ true
passes_of c true h = refl
passes_of c false h = grind arith

pub range_of : (c : ℕ) (m : Bool) → (nat_lt c seconds_in_range && m) ≡ true → c < seconds_in_range
range_of c true h = grind arith
range_of c false h = grind arith

pub match_in_range : (s : Seconds) (c : ℕ) → is_match s c ≡ true → c < seconds_in_range
match_in_range s c h = range_of c (s c) h

-- the list of a set has its civil seconds of the range, no more and no fewer
pub among-matching : (s : Seconds) (c : ℕ) → is_match s c ≡ true → Among (matching_seconds s) c
unfolding matching_seconds
among-matching s c h =
    filter-among s (numbers_below seconds_in_range) c (below-among seconds_in_range c (range_of c (s c) h)) (passes_of c (s c) h)

pub matching-among : (s : Seconds) (c : ℕ) → Among (matching_seconds s) c → is_match s c ≡ true
unfolding matching_seconds
matching-among s c h =
    let both = among-filter s (numbers_below seconds_in_range) c h in
    passes_in c (s c) (among-below seconds_in_range c both.0) both.1
