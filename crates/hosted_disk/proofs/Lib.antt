mod Failed
mod Untouched
