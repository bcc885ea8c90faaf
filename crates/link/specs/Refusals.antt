-- What each refusal tells: its number, the group that it concerns, and a detail, 0 where none is named.
use Rattle.std.specs.Prelude.{ℕ, Some, None, Ok, Err, Option, Result}
use Rattle.link.specs.declared.refusal.Group.{Group}
use Rattle.link.specs.declared.refusal.Group.TheVariants.{Installer, Host, Radio, Air, Recording}
use Rattle.link.specs.declared.refusal.Refusal.{Refusal}
use Rattle.link.specs.declared.refusal.Refusal.TheVariants.{UnsoundCode, BadLengths, UnsuitedLine, ShortMemory, CountFull, NotStealable, WrongLength, BadBit, WrongCount, UnfitSample, WrongParity, BadRecord}

pub record Told : Type 0 where
  pub number : ℕ
  pub group : Group
  pub detail : ℕ

abbrev pub tells : ℕ → Group → ℕ → Told
tells number group detail = record { number = number; group = group; detail = detail }

abbrev pub told : {B : Type 0} → Refusal B → Told
told UnsoundCode = tells 1 Installer 0
told BadLengths = tells 2 Installer 0
told UnsuitedLine = tells 3 Installer 0
told (ShortMemory needed) = tells 4 Host needed
told CountFull = tells 5 Host 0
told (WrongCount given) = tells 6 Radio given
told (UnfitSample place) = tells 7 Radio place
told NotStealable = tells 8 Host 0
told WrongLength = tells 9 Host 0
told (BadBit place) = tells 10 Host place
told (WrongParity report) = tells 11 Air 0
told (BadRecord offset) = tells 12 Recording offset

-- what a call is refused with, if it is refused
abbrev pub refusal : {A B : Type 0} → Result A (Refusal B) → Option Told
refusal (Ok a) = None
refusal (Err x) = Some (told x)
