-- Calls one after another, each on the device that the one before it left.
-- Assumes nothing.
use Rattle.std.specs.Prelude.{Bool, cond, ◌&&◌, List, [], ◌∷◌, ℕ, ◌+◌, eqb, get_or}
use Rattle.laws.specs.Among.{is_among}
use Rattle.basics.specs.Answers.{no_error}
use Rattle.device.specs.Account.{BringsBytes}
use Rattle.device.specs.Outcome.{Outcome}
use Rattle.device.specs.Record.{is_empty}
use Rattle.device.specs.declared.Device.{Device}
use Rattle.demands.specs.Calls.{Call, reset, account, Machine}

-- a day in the life of a device: each call, with its answer, the device after it and what was put out
abbrev pub run : Machine → Device → List Call → List (Call × Outcome)
run machine d [] = []
run machine d (call ∷ calls) = (call, machine d call) ∷ run machine (machine d call).device calls

-- the device after a day
abbrev pub after : Device → List (Call × Outcome) → Device
after d [] = d
after d (entry ∷ day) = after entry.1.device day

module _ (n : ℕ) where
  -- how many loads of a slot succeeded
  abbrev pub is_load_of : ℕ → Call × Outcome → Bool
  is_load_of slot entry = is_among slot (account n entry.0).loads && eqb entry.1.answer no_error

  abbrev pub loads_of : ℕ → List (Call × Outcome) → ℕ
  loads_of slot [] = 0
  loads_of slot (entry ∷ day) = cond (is_load_of slot entry) 1 0 + loads_of slot day

  -- how many times a slot was filled: a call that fills it found it empty, and succeeded
  abbrev pub is_fill_of : ℕ → Device → Call × Outcome → Bool
  is_fill_of slot d entry = is_among slot (account n entry.0).fills && is_empty d slot && eqb entry.1.answer no_error

  abbrev pub fills_of : ℕ → Device → List (Call × Outcome) → ℕ
  fills_of slot d [] = 0
  fills_of slot d (entry ∷ day) = cond (is_fill_of slot d entry) 1 0 + fills_of slot entry.1.device day

  -- ---- what the types say of calls, for theorems: the buffers that they bring hold bytes
  abbrev pub InBytes : List Call → Type 0
  InBytes calls = (k : ℕ) → BringsBytes (account n (get_or calls k reset))
