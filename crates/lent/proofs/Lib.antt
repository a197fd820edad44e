pub mod InPlaceLaws
