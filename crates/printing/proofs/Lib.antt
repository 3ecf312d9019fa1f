pub mod Pages
mod Legend
pub mod ReadBack
