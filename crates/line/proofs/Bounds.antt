-- The laws that come with a bound, from what an answer has of it.
use seplogic.Ra.Ura.{Ura}
use prog.Model.{Model}
use prog.Routine.{Env}
use types.Logic.{Logic}
use contract.Running.{Running}
use denote.RattleType.{RattleType}
use mir.Syntax.{Dict}
use Rattle.std.specs.declared.clone.Clone as clone
use Rattle.line.specs.declared.laying.Line.{Ghosts}
use Rattle.line.specs.contracts.laying.Line.TheBound.{Met}
use Rattle.line.specs.Lawful.{Laws}

pub laws_met : {M : Type 1} {𝓤 : Ura M} {𝓛 : Logic 𝓤} {𝓜 : Model 𝓤 𝓛.H} {𝓡 : Running 𝓤 𝓛.H 𝓜} {γ : Env} {L : RattleType} {l : Ghosts L.Denot} {d : Dict}
    {c : clone.Ghosts L.Denot} {e : Dict} → Met 𝓛 𝓜 𝓡 γ L l d c e → Laws l
laws_met m = record { within = m.within; apart = m.apart; filled = m.filled; ended = m.ended }
