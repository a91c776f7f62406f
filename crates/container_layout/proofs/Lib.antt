pub mod Boxes
pub mod Containers
pub mod DefaultEdition
pub mod Demand3
pub mod Numbers
pub mod Parts
pub mod Placed
pub mod Reports
