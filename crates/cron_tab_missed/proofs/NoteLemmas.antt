-- Noted entries that are found one after another.
use Rattle.std.proofs.Common.{◌≡◌, ◌-◌, ◌++◌, ℕ, List, [], ◌∷◌, cond}
use Rattle.std.specs.BTreeMap.{BTreeMap}
use Rattle.std.specs.Str.{bytes_eq}
use Rattle.cron_tab_running.specs.Noted.{left_of}
use Rattle.cron_tab_running.proofs.CountLemmas.{are_left-more}
use Rattle.cron_tab_missed.specs.Entries.{Since, after, noted}
use Rattle.cron_tab_missed.specs.Inner.Counts.{Knows}
use denote.Ref.{Bor}

-- one more entry was found
pub knows-more : (s : Since) (before : List (List ℕ)) (key : List ℕ) (m n : BTreeMap (Bor (List ℕ)) ℕ) → Knows s before m
    → ((q : List ℕ) → left_of n q ≡ cond (bytes_eq key q) (left_of m q - 1) (left_of m q)) → Knows s (before ++ key ∷ []) n
knows-more (after t) before key m n knows is = tt
knows-more (noted note) before key m n knows is = are_left-more note.entries before key m n knows is
