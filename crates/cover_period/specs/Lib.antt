pub mod Written
pub mod KeyOf
pub mod KeyUnique
pub mod Joined
pub mod Period
pub mod Alone
pub mod RouteLaws
