mod Answered
mod DefragSteps
mod Fields
mod FilterSteps
mod Given
