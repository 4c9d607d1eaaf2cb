pub mod PeriodSearch
pub mod PeriodSearchLaws
pub mod HalfSteps
