-- Three runs of random calls, with what each call shows.
use Rattle.std.specs.Prelude.{◌≡◌, ℕ, List, [], ◌∷◌, Some, None}
use Rattle.head.specs.Head.{fresh}
use Rattle.head.specs.Runs.{Move, submits, hears, turns, ticks, delivers, asks_holders, run}

-- two heads, now and then with frames that nobody put
abbrev pub two_heads : List Move
two_heads =
    record { who = 0; does = hears (Some (2 ∷ 0 ∷ 0 ∷ 0 ∷ 5 ∷ 0 ∷ 1 ∷ 2 ∷ 0 ∷ 0 ∷ 0 ∷ 0 ∷ 3 ∷ 9 ∷ 0 ∷ 0 ∷ 0 ∷ 0 ∷ 2 ∷ 0 ∷ [])) }
    ∷ record { who = 0; does = submits 1 (3 ∷ []) }
    ∷ record { who = 0; does = hears (Some (1 ∷ 0 ∷ 0 ∷ 0 ∷ 0 ∷ 1 ∷ 1 ∷ 1 ∷ 3 ∷ [])) }
    ∷ record { who = 0; does = submits 1 (3 ∷ 1 ∷ []) }
    ∷ record { who = 0; does = submits 7 (1 ∷ []) }
    ∷ record { who = 1; does = hears (Some (1 ∷ 0 ∷ 0 ∷ 0 ∷ 0 ∷ 1 ∷ 1 ∷ 1 ∷ 3 ∷ [])) }
    ∷ record { who = 1; does = hears (Some (1 ∷ 0 ∷ 0 ∷ 0 ∷ 0 ∷ 2 ∷ 1 ∷ 2 ∷ 3 ∷ 1 ∷ [])) }
    ∷ record { who = 0; does = hears (Some (1 ∷ 0 ∷ 0 ∷ 0 ∷ 0 ∷ 2 ∷ 1 ∷ 2 ∷ 3 ∷ 1 ∷ [])) }
    ∷ record { who = 1; does = hears None }
    ∷ record { who = 0; does = ticks }
    ∷ record { who = 1; does = turns }
    ∷ record { who = 1; does = turns }
    ∷ record { who = 0; does = delivers }
    ∷ record { who = 1; does = hears (Some (2 ∷ 0 ∷ 0 ∷ 0 ∷ 1 ∷ 0 ∷ 1 ∷ 2 ∷ 0 ∷ 0 ∷ 0 ∷ 0 ∷ 1 ∷ 1 ∷ 0 ∷ 0 ∷ 0 ∷ 0 ∷ 2 ∷ 1 ∷ [])) }
    ∷ record { who = 0; does = submits 9 (3 ∷ 1 ∷ 3 ∷ []) }
    ∷ record { who = 1; does = hears (Some (1 ∷ 0 ∷ 0 ∷ 0 ∷ 0 ∷ 3 ∷ 9 ∷ 3 ∷ 3 ∷ 1 ∷ 3 ∷ [])) }
    ∷ record { who = 0; does = hears None }
    ∷ record { who = 1; does = hears None }
    ∷ record { who = 1; does = turns }
    ∷ record { who = 0; does = hears (Some (2 ∷ 0 ∷ 0 ∷ 0 ∷ 4 ∷ 1 ∷ 0 ∷ 1 ∷ 0 ∷ 0 ∷ 0 ∷ 0 ∷ 3 ∷ 9 ∷ [])) }
    ∷ record { who = 0; does = delivers }
    ∷ record { who = 1; does = hears None }
    ∷ record { who = 1; does = asks_holders 2 }
    ∷ record { who = 1; does = hears None }
    ∷ record { who = 0; does = turns }
    ∷ record { who = 0; does = hears (Some (2 ∷ 0 ∷ 0 ∷ 0 ∷ 99 ∷ 1 ∷ 0 ∷ 2 ∷ 1 ∷ 0 ∷ 0 ∷ 0 ∷ 1 ∷ 8 ∷ 1 ∷ 0 ∷ 0 ∷ 0 ∷ 1 ∷ 8 ∷ [])) }
    ∷ []

abbrev pub two_heads_show : List (List ℕ)
two_heads_show =
    (0 ∷ 13 ∷ 1 ∷ 1 ∷ 1 ∷ 1 ∷ [])
    ∷ (1 ∷ 1 ∷ 1 ∷ 1 ∷ 1 ∷ 1 ∷ 9 ∷ 1 ∷ 0 ∷ 0 ∷ 0 ∷ 0 ∷ 1 ∷ 1 ∷ 1 ∷ 3 ∷ [])
    ∷ (3 ∷ 1 ∷ 1 ∷ 1 ∷ 1 ∷ [])
    ∷ (1 ∷ 2 ∷ 1 ∷ 1 ∷ 1 ∷ 1 ∷ 10 ∷ 1 ∷ 0 ∷ 0 ∷ 0 ∷ 0 ∷ 2 ∷ 1 ∷ 2 ∷ 3 ∷ 1 ∷ [])
    ∷ (0 ∷ 4 ∷ 1 ∷ 1 ∷ 1 ∷ 1 ∷ [])
    ∷ (6 ∷ 1 ∷ 1 ∷ 1 ∷ 1 ∷ [])
    ∷ (6 ∷ 1 ∷ 1 ∷ 1 ∷ 1 ∷ [])
    ∷ (3 ∷ 1 ∷ 1 ∷ 1 ∷ 1 ∷ [])
    ∷ (2 ∷ 1 ∷ 1 ∷ 1 ∷ 1 ∷ [])
    ∷ (14 ∷ 1 ∷ 1 ∷ 4 ∷ 4 ∷ 1 ∷ 20 ∷ 2 ∷ 0 ∷ 0 ∷ 0 ∷ 1 ∷ 0 ∷ 1 ∷ 2 ∷ 0 ∷ 0 ∷ 0 ∷ 0 ∷ 1 ∷ 1 ∷ 0 ∷ 0 ∷ 0 ∷ 0 ∷ 2 ∷ 1 ∷ [])
    ∷ (11 ∷ 1 ∷ 1 ∷ 1 ∷ 1 ∷ [])
    ∷ (11 ∷ 1 ∷ 1 ∷ 1 ∷ 1 ∷ [])
    ∷ (15 ∷ 1 ∷ 4 ∷ 4 ∷ 2 ∷ [])
    ∷ (8 ∷ 1 ∷ 4 ∷ 4 ∷ 1 ∷ [])
    ∷ (1 ∷ 3 ∷ 1 ∷ 4 ∷ 4 ∷ 2 ∷ 11 ∷ 1 ∷ 0 ∷ 0 ∷ 0 ∷ 0 ∷ 3 ∷ 9 ∷ 3 ∷ 3 ∷ 1 ∷ 3 ∷ [])
    ∷ (6 ∷ 1 ∷ 4 ∷ 4 ∷ 1 ∷ [])
    ∷ (2 ∷ 1 ∷ 4 ∷ 4 ∷ 2 ∷ [])
    ∷ (2 ∷ 1 ∷ 4 ∷ 4 ∷ 1 ∷ [])
    ∷ (12 ∷ 4 ∷ 1 ∷ 1 ∷ 6 ∷ 6 ∷ 1 ∷ 14 ∷ 2 ∷ 0 ∷ 0 ∷ 0 ∷ 4 ∷ 1 ∷ 0 ∷ 1 ∷ 0 ∷ 0 ∷ 0 ∷ 0 ∷ 3 ∷ 9 ∷ [])
    ∷ (8 ∷ 1 ∷ 6 ∷ 6 ∷ 2 ∷ [])
    ∷ (16 ∷ 2 ∷ 0 ∷ 1 ∷ 1 ∷ 3 ∷ 1 ∷ 6 ∷ 6 ∷ 3 ∷ [])
    ∷ (2 ∷ 1 ∷ 6 ∷ 6 ∷ 1 ∷ [])
    ∷ (1 ∷ 1 ∷ 1 ∷ 0 ∷ 0 ∷ 0 ∷ 0 ∷ 0 ∷ 0 ∷ 0 ∷ 0 ∷ 0 ∷ 0 ∷ 0 ∷ 0 ∷ 0 ∷ 0 ∷ 0 ∷ 0 ∷ 0 ∷ 0 ∷ 0 ∷ 0 ∷ 0 ∷ 0 ∷ 0 ∷ 0 ∷ 0 ∷ 0 ∷ 0 ∷ 0 ∷ 0 ∷ 0 ∷ 0 ∷ 0 ∷ 0 ∷ 0 ∷ 0 ∷ 0 ∷ 0 ∷ 0 ∷ 0 ∷ 0 ∷ 0 ∷ 0 ∷ 0 ∷ 0 ∷ 0 ∷ 0 ∷ 0 ∷ 0 ∷ 0 ∷ 0 ∷ 0 ∷ 0 ∷ 0 ∷ 0 ∷ 0 ∷ 0 ∷ 0 ∷ 0 ∷ 0 ∷ 0 ∷ 0 ∷ 0 ∷ 0 ∷ 0 ∷ 0 ∷ 0 ∷ 0 ∷ 0 ∷ 0 ∷ 0 ∷ 0 ∷ 0 ∷ 0 ∷ 0 ∷ 0 ∷ 0 ∷ 0 ∷ 0 ∷ 0 ∷ 0 ∷ 0 ∷ 0 ∷ 0 ∷ 0 ∷ 0 ∷ 0 ∷ 0 ∷ 0 ∷ 0 ∷ 0 ∷ 0 ∷ 0 ∷ 0 ∷ 0 ∷ 0 ∷ 1 ∷ 6 ∷ 6 ∷ 1 ∷ [])
    ∷ (2 ∷ 1 ∷ 6 ∷ 6 ∷ 1 ∷ [])
    ∷ (10 ∷ 1 ∷ 6 ∷ 6 ∷ 3 ∷ [])
    ∷ (7 ∷ 1 ∷ 6 ∷ 6 ∷ 3 ∷ [])
    ∷ []

-- three heads, with every packet in its turn or late
abbrev pub three_heads : List Move
three_heads =
    record { who = 2; does = ticks }
    ∷ record { who = 0; does = asks_holders 1 }
    ∷ record { who = 2; does = hears None }
    ∷ record { who = 1; does = hears None }
    ∷ record { who = 2; does = submits 0 (0 ∷ 2 ∷ 2 ∷ 0 ∷ 0 ∷ 2 ∷ 3 ∷ 0 ∷ []) }
    ∷ record { who = 0; does = submits 3 (1 ∷ 3 ∷ []) }
    ∷ record { who = 1; does = hears (Some (1 ∷ 2 ∷ 0 ∷ 0 ∷ 0 ∷ 1 ∷ 0 ∷ 8 ∷ 0 ∷ 2 ∷ 2 ∷ 0 ∷ 0 ∷ 2 ∷ 3 ∷ 0 ∷ [])) }
    ∷ record { who = 2; does = submits 2 (0 ∷ 2 ∷ []) }
    ∷ record { who = 0; does = hears (Some (1 ∷ 2 ∷ 0 ∷ 0 ∷ 0 ∷ 1 ∷ 0 ∷ 8 ∷ 0 ∷ 2 ∷ 2 ∷ 0 ∷ 0 ∷ 2 ∷ 3 ∷ 0 ∷ [])) }
    ∷ record { who = 1; does = hears (Some (1 ∷ 2 ∷ 0 ∷ 0 ∷ 0 ∷ 2 ∷ 2 ∷ 2 ∷ 0 ∷ 2 ∷ [])) }
    ∷ record { who = 2; does = ticks }
    ∷ record { who = 0; does = hears (Some (1 ∷ 2 ∷ 0 ∷ 0 ∷ 0 ∷ 2 ∷ 2 ∷ 2 ∷ 0 ∷ 2 ∷ [])) }
    ∷ record { who = 1; does = submits 1 (3 ∷ []) }
    ∷ record { who = 0; does = asks_holders 1 }
    ∷ record { who = 2; does = delivers }
    ∷ record { who = 2; does = hears (Some (1 ∷ 1 ∷ 0 ∷ 0 ∷ 0 ∷ 1 ∷ 1 ∷ 1 ∷ 3 ∷ [])) }
    ∷ record { who = 0; does = turns }
    ∷ record { who = 1; does = hears (Some (2 ∷ 0 ∷ 0 ∷ 0 ∷ 1 ∷ 0 ∷ 1 ∷ 2 ∷ 2 ∷ 0 ∷ 0 ∷ 0 ∷ 1 ∷ 0 ∷ 2 ∷ 0 ∷ 0 ∷ 0 ∷ 2 ∷ 2 ∷ [])) }
    ∷ record { who = 0; does = turns }
    ∷ record { who = 0; does = ticks }
    ∷ record { who = 0; does = hears (Some (1 ∷ 1 ∷ 0 ∷ 0 ∷ 0 ∷ 1 ∷ 1 ∷ 1 ∷ 3 ∷ [])) }
    ∷ record { who = 0; does = asks_holders 3 }
    ∷ record { who = 1; does = delivers }
    ∷ record { who = 1; does = hears (Some (2 ∷ 0 ∷ 0 ∷ 0 ∷ 1 ∷ 0 ∷ 1 ∷ 2 ∷ 2 ∷ 0 ∷ 0 ∷ 0 ∷ 1 ∷ 0 ∷ 2 ∷ 0 ∷ 0 ∷ 0 ∷ 2 ∷ 2 ∷ [])) }
    ∷ record { who = 2; does = ticks }
    ∷ record { who = 0; does = hears None }
    ∷ []

abbrev pub three_heads_show : List (List ℕ)
three_heads_show =
    (14 ∷ 0 ∷ 1 ∷ 1 ∷ 1 ∷ 1 ∷ [])
    ∷ (0 ∷ 10 ∷ 1 ∷ 1 ∷ 1 ∷ 1 ∷ [])
    ∷ (2 ∷ 1 ∷ 1 ∷ 1 ∷ 1 ∷ [])
    ∷ (2 ∷ 1 ∷ 1 ∷ 1 ∷ 1 ∷ [])
    ∷ (1 ∷ 1 ∷ 1 ∷ 1 ∷ 1 ∷ 1 ∷ 16 ∷ 1 ∷ 2 ∷ 0 ∷ 0 ∷ 0 ∷ 1 ∷ 0 ∷ 8 ∷ 0 ∷ 2 ∷ 2 ∷ 0 ∷ 0 ∷ 2 ∷ 3 ∷ 0 ∷ [])
    ∷ (0 ∷ 4 ∷ 1 ∷ 1 ∷ 1 ∷ 1 ∷ [])
    ∷ (6 ∷ 1 ∷ 1 ∷ 1 ∷ 1 ∷ [])
    ∷ (1 ∷ 2 ∷ 1 ∷ 1 ∷ 1 ∷ 1 ∷ 10 ∷ 1 ∷ 2 ∷ 0 ∷ 0 ∷ 0 ∷ 2 ∷ 2 ∷ 2 ∷ 0 ∷ 2 ∷ [])
    ∷ (6 ∷ 1 ∷ 1 ∷ 1 ∷ 1 ∷ [])
    ∷ (6 ∷ 1 ∷ 1 ∷ 1 ∷ 1 ∷ [])
    ∷ (13 ∷ 1 ∷ 1 ∷ 1 ∷ 1 ∷ [])
    ∷ (6 ∷ 1 ∷ 1 ∷ 1 ∷ 1 ∷ [])
    ∷ (1 ∷ 1 ∷ 1 ∷ 1 ∷ 1 ∷ 1 ∷ 9 ∷ 1 ∷ 1 ∷ 0 ∷ 0 ∷ 0 ∷ 1 ∷ 1 ∷ 1 ∷ 3 ∷ [])
    ∷ (0 ∷ 10 ∷ 1 ∷ 1 ∷ 1 ∷ 1 ∷ [])
    ∷ (15 ∷ 1 ∷ 1 ∷ 1 ∷ 1 ∷ [])
    ∷ (6 ∷ 1 ∷ 1 ∷ 1 ∷ 1 ∷ [])
    ∷ (12 ∷ 1 ∷ 2 ∷ 1 ∷ 4 ∷ 4 ∷ 1 ∷ 20 ∷ 2 ∷ 0 ∷ 0 ∷ 0 ∷ 1 ∷ 0 ∷ 1 ∷ 2 ∷ 2 ∷ 0 ∷ 0 ∷ 0 ∷ 1 ∷ 0 ∷ 2 ∷ 0 ∷ 0 ∷ 0 ∷ 2 ∷ 2 ∷ [])
    ∷ (8 ∷ 1 ∷ 4 ∷ 4 ∷ 1 ∷ [])
    ∷ (11 ∷ 1 ∷ 4 ∷ 4 ∷ 1 ∷ [])
    ∷ (14 ∷ 1 ∷ 1 ∷ 4 ∷ 4 ∷ 1 ∷ 20 ∷ 2 ∷ 0 ∷ 0 ∷ 0 ∷ 1 ∷ 0 ∷ 1 ∷ 2 ∷ 2 ∷ 0 ∷ 0 ∷ 0 ∷ 1 ∷ 0 ∷ 2 ∷ 0 ∷ 0 ∷ 0 ∷ 2 ∷ 2 ∷ [])
    ∷ (6 ∷ 1 ∷ 4 ∷ 4 ∷ 1 ∷ [])
    ∷ (1 ∷ 0 ∷ 0 ∷ 0 ∷ 0 ∷ 0 ∷ 0 ∷ 0 ∷ 0 ∷ 0 ∷ 0 ∷ 0 ∷ 0 ∷ 0 ∷ 0 ∷ 0 ∷ 0 ∷ 0 ∷ 0 ∷ 0 ∷ 0 ∷ 0 ∷ 0 ∷ 0 ∷ 0 ∷ 0 ∷ 0 ∷ 0 ∷ 0 ∷ 0 ∷ 0 ∷ 0 ∷ 0 ∷ 0 ∷ 0 ∷ 0 ∷ 0 ∷ 0 ∷ 0 ∷ 0 ∷ 0 ∷ 0 ∷ 0 ∷ 0 ∷ 0 ∷ 0 ∷ 0 ∷ 0 ∷ 0 ∷ 0 ∷ 0 ∷ 0 ∷ 0 ∷ 0 ∷ 0 ∷ 0 ∷ 0 ∷ 0 ∷ 0 ∷ 0 ∷ 0 ∷ 0 ∷ 0 ∷ 0 ∷ 0 ∷ 0 ∷ 0 ∷ 0 ∷ 0 ∷ 0 ∷ 0 ∷ 0 ∷ 0 ∷ 0 ∷ 0 ∷ 0 ∷ 0 ∷ 0 ∷ 0 ∷ 0 ∷ 0 ∷ 0 ∷ 0 ∷ 0 ∷ 0 ∷ 0 ∷ 0 ∷ 0 ∷ 0 ∷ 0 ∷ 0 ∷ 0 ∷ 0 ∷ 0 ∷ 0 ∷ 0 ∷ 0 ∷ 0 ∷ 1 ∷ 4 ∷ 4 ∷ 1 ∷ [])
    ∷ (16 ∷ 2 ∷ 2 ∷ 1 ∷ 0 ∷ 0 ∷ 2 ∷ 2 ∷ 0 ∷ 0 ∷ 2 ∷ 3 ∷ 0 ∷ 1 ∷ 4 ∷ 4 ∷ 3 ∷ [])
    ∷ (3 ∷ 1 ∷ 4 ∷ 4 ∷ 3 ∷ [])
    ∷ (14 ∷ 1 ∷ 1 ∷ 1 ∷ 1 ∷ 1 ∷ 16 ∷ 1 ∷ 2 ∷ 0 ∷ 0 ∷ 0 ∷ 1 ∷ 0 ∷ 8 ∷ 0 ∷ 2 ∷ 2 ∷ 0 ∷ 0 ∷ 2 ∷ 3 ∷ 0 ∷ [])
    ∷ (2 ∷ 1 ∷ 4 ∷ 4 ∷ 1 ∷ [])
    ∷ []

-- five heads, with many frames that nobody put
abbrev pub five_heads : List Move
five_heads =
    record { who = 1; does = hears None }
    ∷ record { who = 1; does = hears (Some (3 ∷ 3 ∷ 4 ∷ 0 ∷ 0 ∷ 0 ∷ 13 ∷ [])) }
    ∷ record { who = 0; does = delivers }
    ∷ record { who = 3; does = delivers }
    ∷ record { who = 4; does = submits 4 (3 ∷ 0 ∷ 0 ∷ []) }
    ∷ record { who = 2; does = turns }
    ∷ record { who = 4; does = ticks }
    ∷ record { who = 3; does = hears (Some (3 ∷ 1 ∷ 2 ∷ 0 ∷ 0 ∷ 0 ∷ 6 ∷ [])) }
    ∷ record { who = 3; does = delivers }
    ∷ record { who = 2; does = hears (Some (1 ∷ 4 ∷ 0 ∷ 0 ∷ 0 ∷ 1 ∷ 4 ∷ 3 ∷ 3 ∷ 0 ∷ 0 ∷ [])) }
    ∷ record { who = 0; does = submits 0 (3 ∷ 2 ∷ []) }
    ∷ record { who = 0; does = turns }
    ∷ record { who = 3; does = hears (Some (1 ∷ 4 ∷ 0 ∷ 0 ∷ 0 ∷ 1 ∷ 4 ∷ 3 ∷ 3 ∷ 0 ∷ 0 ∷ [])) }
    ∷ record { who = 3; does = hears (Some (1 ∷ 4 ∷ 0 ∷ 0 ∷ 0 ∷ 1 ∷ 4 ∷ 3 ∷ 3 ∷ 0 ∷ 0 ∷ [])) }
    ∷ record { who = 1; does = hears (Some (1 ∷ 4 ∷ 0 ∷ 0 ∷ 0 ∷ 1 ∷ 4 ∷ 3 ∷ 3 ∷ 0 ∷ [])) }
    ∷ record { who = 4; does = delivers }
    ∷ record { who = 3; does = submits 5 (0 ∷ 2 ∷ []) }
    ∷ record { who = 4; does = ticks }
    ∷ record { who = 0; does = submits 7 (2 ∷ []) }
    ∷ record { who = 0; does = ticks }
    ∷ record { who = 2; does = hears (Some (1 ∷ 4 ∷ 0 ∷ 0 ∷ 0 ∷ 1 ∷ 4 ∷ 3 ∷ 3 ∷ 0 ∷ 0 ∷ [])) }
    ∷ record { who = 2; does = hears (Some (2 ∷ 0 ∷ 0 ∷ 0 ∷ 1 ∷ 0 ∷ 1 ∷ 1 ∷ 0 ∷ 0 ∷ 0 ∷ 0 ∷ 1 ∷ 0 ∷ [])) }
    ∷ record { who = 0; does = delivers }
    ∷ record { who = 2; does = hears (Some (1 ∷ 4 ∷ 0 ∷ 0 ∷ 0 ∷ 1 ∷ 4 ∷ 3 ∷ 3 ∷ 0 ∷ 0 ∷ [])) }
    ∷ record { who = 2; does = turns }
    ∷ record { who = 4; does = submits 5 (2 ∷ []) }
    ∷ []

abbrev pub five_heads_show : List (List ℕ)
five_heads_show =
    (2 ∷ 1 ∷ 1 ∷ 1 ∷ 1 ∷ [])
    ∷ (10 ∷ 1 ∷ 1 ∷ 1 ∷ 1 ∷ [])
    ∷ (15 ∷ 1 ∷ 1 ∷ 1 ∷ 1 ∷ [])
    ∷ (15 ∷ 1 ∷ 1 ∷ 1 ∷ 1 ∷ [])
    ∷ (1 ∷ 1 ∷ 1 ∷ 1 ∷ 1 ∷ 1 ∷ 11 ∷ 1 ∷ 4 ∷ 0 ∷ 0 ∷ 0 ∷ 1 ∷ 4 ∷ 3 ∷ 3 ∷ 0 ∷ 0 ∷ [])
    ∷ (11 ∷ 1 ∷ 1 ∷ 1 ∷ 1 ∷ [])
    ∷ (14 ∷ 1 ∷ 1 ∷ 1 ∷ 1 ∷ 1 ∷ 11 ∷ 1 ∷ 4 ∷ 0 ∷ 0 ∷ 0 ∷ 1 ∷ 4 ∷ 3 ∷ 3 ∷ 0 ∷ 0 ∷ [])
    ∷ (10 ∷ 1 ∷ 1 ∷ 1 ∷ 1 ∷ [])
    ∷ (15 ∷ 1 ∷ 1 ∷ 1 ∷ 1 ∷ [])
    ∷ (6 ∷ 1 ∷ 1 ∷ 1 ∷ 1 ∷ [])
    ∷ (1 ∷ 1 ∷ 1 ∷ 1 ∷ 1 ∷ 1 ∷ 10 ∷ 1 ∷ 0 ∷ 0 ∷ 0 ∷ 0 ∷ 1 ∷ 0 ∷ 2 ∷ 3 ∷ 2 ∷ [])
    ∷ (12 ∷ 1 ∷ 1 ∷ 1 ∷ 3 ∷ 3 ∷ 1 ∷ 14 ∷ 2 ∷ 0 ∷ 0 ∷ 0 ∷ 1 ∷ 0 ∷ 1 ∷ 1 ∷ 0 ∷ 0 ∷ 0 ∷ 0 ∷ 1 ∷ 0 ∷ [])
    ∷ (6 ∷ 1 ∷ 1 ∷ 1 ∷ 1 ∷ [])
    ∷ (3 ∷ 1 ∷ 1 ∷ 1 ∷ 1 ∷ [])
    ∷ (0 ∷ 11 ∷ 1 ∷ 1 ∷ 1 ∷ 1 ∷ [])
    ∷ (15 ∷ 1 ∷ 1 ∷ 1 ∷ 1 ∷ [])
    ∷ (0 ∷ 4 ∷ 1 ∷ 1 ∷ 1 ∷ 1 ∷ [])
    ∷ (13 ∷ 1 ∷ 1 ∷ 1 ∷ 1 ∷ [])
    ∷ (0 ∷ 4 ∷ 1 ∷ 3 ∷ 3 ∷ 1 ∷ [])
    ∷ (14 ∷ 1 ∷ 1 ∷ 3 ∷ 3 ∷ 1 ∷ 14 ∷ 2 ∷ 0 ∷ 0 ∷ 0 ∷ 1 ∷ 0 ∷ 1 ∷ 1 ∷ 0 ∷ 0 ∷ 0 ∷ 0 ∷ 1 ∷ 0 ∷ [])
    ∷ (3 ∷ 1 ∷ 1 ∷ 1 ∷ 1 ∷ [])
    ∷ (8 ∷ 1 ∷ 2 ∷ 3 ∷ 1 ∷ [])
    ∷ (16 ∷ 2 ∷ 0 ∷ 1 ∷ 0 ∷ 3 ∷ 2 ∷ 1 ∷ 3 ∷ 3 ∷ 3 ∷ [])
    ∷ (3 ∷ 1 ∷ 2 ∷ 3 ∷ 1 ∷ [])
    ∷ (11 ∷ 1 ∷ 2 ∷ 3 ∷ 1 ∷ [])
    ∷ (0 ∷ 4 ∷ 1 ∷ 1 ∷ 1 ∷ 1 ∷ [])
    ∷ []

-- each run shows what stands beside it
pub record SampleRuns : Type 0 where
  pub of_two_heads : run 2 fresh two_heads ≡ two_heads_show
  pub of_three_heads : run 3 fresh three_heads ≡ three_heads_show
  pub of_five_heads : run 5 fresh five_heads ≡ five_heads_show
