-- Times of a day that have no reading, passed many at once. A time stands if it is on the timeline:
-- it matches and has a reading. A stretch is civil seconds with the same offsets.
use Rattle.std.specs.Prelude.{◌≡◌, ℕ, ◌<◌, ◌≤◌, true, false, Option, MatchOption}
use Rattle.jiff_tz.specs.declared.timezone.TimeZone.{TimeZone}
use Rattle.cron_units.specs.declared.way.Way.{Way}
use Rattle.cron_units.specs.Nearest.{LiesFrom, Precedes}
use Rattle.cron_units.specs.Sets.{Sets}
use Rattle.cron_clocks.specs.declared.stretch.Stretch.{Stretch}
use Rattle.cron_time.specs.Search.Inner.Blocks.{AllFail}
use Rattle.cron_time.specs.Search.Inner.Numbers.{beyond, matches_second, stands_at}

-- two civil seconds lie in a stretch
pub record AreTogether (st : Stretch) (a b : ℕ) : Type 0 where
  pub low : st.first ≤ a
  pub high : a < st.end
  pub other_low : st.first ≤ b
  pub other_high : b < st.end

-- a time of the day past another lies in the sets, and between them none stands
pub record IsNextTime (way : Way) (s : Sets) (z : TimeZone) (day time next : ℕ) : Type 0 where
  pub member : matches_second s next ≡ true
  pub lies : LiesFrom way (beyond way time) next
  pub between : (t : ℕ) → LiesFrom way (beyond way time) t → Precedes way t next → stands_at s z day t ≡ false

-- the next time of the day past another that lies in the sets, with none between that stands;
-- `None` only if none past the other stands
abbrev pub LeadsPast : Way → Sets → TimeZone → ℕ → ℕ → Option ℕ → Type 0
LeadsPast way s z day time next = MatchOption next (AllFail way (stands_at s z day) (beyond way time)) (IsNextTime way s z day time)
