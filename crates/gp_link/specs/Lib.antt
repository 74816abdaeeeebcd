pub mod Variables
pub mod LinkClauses
pub mod LinkProblem
pub mod LinkLaws
pub mod LinkExamples
