pub mod Flows
pub mod Locations
pub mod Log
pub mod Results
pub mod Uri
