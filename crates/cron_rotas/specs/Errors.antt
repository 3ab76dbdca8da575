-- Why some people and swaps make no rota.
use Rattle.std.specs.Prelude.{◌≡◌, ◌++◌, ◌<◌, ℕ, List, Some, codes, not, position}
use Rattle.std.specs.Fmt.{decimal}
use Rattle.cron_rotas.specs.Rotas.{is_swap_of}
use Rattle.cron_rotas.specs.declared.error.RotaError.{RotaError}
use Rattle.cron_rotas.specs.declared.error.RotaError.TheVariants.{NoPeople, Swap as WrongSwap}
use Rattle.cron_rotas.specs.declared.swap.Swap.{Swap}

-- the first swap that has no seconds, or isn't of one of the people, has this number
abbrev pub IsFirstWrong : ℕ → List Swap → ℕ → Type 0
IsFirstWrong people swaps number = position (λ s. not (is_swap_of people s)) swaps ≡ Some number

-- there are no people; or there are some, and a swap is wrong
abbrev pub IsNoRota : ℕ → List Swap → RotaError → Type 0
IsNoRota people swaps NoPeople = people ≡ 0
IsNoRota people swaps (WrongSwap number) = (0 < people) × IsFirstWrong people swaps number

abbrev pub rota_error_text : RotaError → List ℕ
rota_error_text NoPeople = codes "a rota has no people"
rota_error_text (WrongSwap number) = codes "swap " ++ (decimal number ++ codes ", counted from 0, has no seconds or isn't of one of the people")
