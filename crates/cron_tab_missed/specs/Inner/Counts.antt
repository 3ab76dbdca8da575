-- How often entries are noted that weren't found yet.
use Rattle.std.specs.Prelude.{ℕ, List}
use Rattle.std.specs.BTreeMap.{BTreeMap}
use Rattle.cron_tab_running.specs.Noted.{AreLeft}
use Rattle.cron_tab_missed.specs.Entries.{Since, after, noted}
use denote.Ref.{Bor}

-- The map has the count of each noted entry, less how often it is in `before`. It may be any map
-- where no note is asked.
abbrev pub Knows : Since → List (List ℕ) → BTreeMap (Bor (List ℕ)) ℕ → Type 0
Knows (after t) before m = Unit {0}
Knows (noted n) before m = AreLeft n.entries before m
