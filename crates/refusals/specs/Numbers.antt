-- The number of each refusal ("Who can be turned back").
use Rattle.std.specs.Prelude.{ℕ}
use Rattle.refusals.specs.declared.Refusal.{Refusal}
use Rattle.refusals.specs.declared.Refusal.TheVariants.{NoHeader, CountTooLarge, NotANumber, VariableTooHigh, UnendedClause, ClauseCount, TooManyLiterals, ShortWorkspace, ShortLogBuffer, ShortFormulaBuffer, ShortLineBuffer, StepOutOfRange, TooManyVariables, ShortTable, BadLogLine, NoSuchClause, CarriedBackFails, TooFewLines, BadLayout, UnknownVariable, NamedTwice, AnswerFails, PlanFails, CarriedForwardFails}

abbrev pub number : Refusal → ℕ
number NoHeader = 1
number CountTooLarge = 2
number NotANumber = 3
number VariableTooHigh = 4
number UnendedClause = 7
number ClauseCount = 8
number TooManyLiterals = 9
number ShortWorkspace = 11
number ShortLogBuffer = 12
number ShortFormulaBuffer = 13
number ShortLineBuffer = 14
number StepOutOfRange = 15
number TooManyVariables = 16
number ShortTable = 17
number BadLogLine = 31
number NoSuchClause = 32
number CarriedBackFails = 33
number TooFewLines = 34
number BadLayout = 41
number UnknownVariable = 42
number NamedTwice = 43
number AnswerFails = 44
number PlanFails = 45
number CarriedForwardFails = 46
