pub mod Queued
pub mod Places
pub mod Answers
