-- What holds of windows.
use Rattle.std.specs.Prelude.{◌≡◌, ◌↔◌, ℤ, ◌≤ℤ◌, ◌<ℤ◌, Bool, true, List}
use Rattle.cron_stretches.specs.Laws.{HasSecond}
use Rattle.cron_seconds.specs.Rules.{IsAmong}
use Rattle.cron_windows.specs.Windows.{closed_by, is_open, windows_between}

-- a window is open at a second between two exactly if the second lies in a listed window
abbrev pub OpenWhereListed : Type 0
OpenWhereListed =
    (test : ℤ → Bool) (from to t : ℤ)
    → from ≤ℤ t
    → t <ℤ to
    → (test t ≡ true) ↔ HasSecond (windows_between test from to) t

-- by two sets, a window is open exactly if a fire of the one has come at which, or before which, the last fire of the
-- other came: the latest fire of both opens, where at one instant closing comes first
abbrev pub LatestFireDecides : Type 0
LatestFireDecides =
    (opens closes : List ℤ) (t : ℤ)
    → (is_open (closed_by opens closes) t ≡ true)
    ↔ ((n : ℤ) × IsAmong opens n × (n ≤ℤ t) × ((c : ℤ) → IsAmong closes c → c ≤ℤ t → c ≤ℤ n))
