-- Which entry of one crontab corresponds to which entry of the other.
use Rattle.std.specs.Prelude.{◌&&◌, ℕ, Bool, true, false, List, [], ◌∷◌, Option, Some, None, filter, slice_get}
use Rattle.std.specs.List.{count_by}
use Rattle.std.specs.Str.{bytes_eq}
use Rattle.cron_units.specs.Sets.{Sets}
use Rattle.cron_tab_comparing.specs.Entries.{Entry}

-- whether both are the same bytes, or both are missing
abbrev pub are_alike : Option (List ℕ) → Option (List ℕ) → Bool
are_alike (Some a) (Some b) = bytes_eq a b
are_alike None None = true
are_alike _ _ = false

-- whether a clock fires both entries, or neither: one without schedules is `@reboot`
abbrev pub are_one_kind : List Sets → List Sets → Bool
are_one_kind [] [] = true
are_one_kind (s ∷ ss) (t ∷ ts) = true
are_one_kind _ _ = false

-- Whether two entries run the same: the same command with the same input, of the same user, in a
-- zone of the same name. A clock fires both, or both run at the start of the machine.
abbrev pub same : Entry → Entry → Bool
same a b =
    bytes_eq a.command b.command
    && (are_alike a.user b.user && (are_alike a.input b.input && (bytes_eq a.zone b.zone && are_one_kind a.schedules b.schedules)))

-- The entry of the other crontab that corresponds to a. If n of the entries `before` a run the same
-- as a, it is entry n, counted from 0, of the others that run the same.
abbrev pub other_of : List Entry → List Entry → Entry → Option Entry
other_of others before a = slice_get (filter (same a) others) (count_by (same a) before)
