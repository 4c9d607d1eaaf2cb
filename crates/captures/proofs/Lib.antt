pub mod CaptureLaws
