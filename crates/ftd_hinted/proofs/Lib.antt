mod HintDays
mod HintLaws
mod HintRefused
mod HintShown
mod HintTasks
mod HintValues
mod HintVerbs
mod HintWords
