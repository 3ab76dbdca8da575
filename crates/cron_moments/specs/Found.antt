-- What a search found, as a list.
use Rattle.std.specs.Prelude.{ℕ, option_map, List, [], ◌∷◌, Option, Some, None, option_to_list}
use Rattle.cron_moments.specs.Readings.{Reading}
use Rattle.cron_moments.specs.declared.readings.Found.{Found}

-- the readings of the civil second that was found, the earlier one first
abbrev pub found_items : Found → List Reading
found_items f = f.first ∷ option_to_list f.second

-- the readings that were found, or the empty list if nothing was
abbrev pub items_if_any : Option Found → List Reading
items_if_any None = []
items_if_any (Some f) = found_items f

-- the number of the civil second that was found
abbrev pub second_of : Option Found → Option ℕ
second_of found = option_map (λ f. f.first.second) found
