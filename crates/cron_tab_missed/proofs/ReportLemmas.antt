-- Entries that missed a fire, as the code asks for them.
use Rattle.std.proofs.Common.{◌≡◌, ◌==◌, ◌||◌, Bool, not, List, [], ◌∷◌, map, refl, ap}
use Rattle.std.specs.List.{list_any}
use Rattle.cron_tab_missed.specs.Entries.{view}
use Rattle.cron_tab_missed.specs.Reports.{has_missed}
use Rattle.cron_tab_missed.specs.declared.entries.TabMissed.{TabMissed}

pub any_viewed : (es : List TabMissed) → list_any has_missed (map view es) ≡ list_any (λ e. not (e.count == 0)) es
any_viewed [] = refl
any_viewed (e ∷ es) = ap (λ (rest : Bool). has_missed (view e) || rest) (any_viewed es)
